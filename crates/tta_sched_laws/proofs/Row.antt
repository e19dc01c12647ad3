-- Blocks in a row: a leg of lists takes at least one cycle, and at most as many as there are instructions from its first
-- block on.
use Rattle.std.proofs.Common.{◌≡◌, ◌≢◌, inl, inr, ℕ, suc, ◌+◌, ◌<◌, ◌≤◌, true, false, List, [], ◌∷◌, Option, Some, None, refl, sym, ap, subst, ◌∙◌, arith, length, take}
use Rattle.std.specs.Prelude.{slice_get, slice_index, IsTrue}
use Rattle.std.specs.Option.{option_map_or}
use Rattle.std.specs.List.{AllByRecursion}
use Rattle.tta_sched_laws.specs.Cited.{iterate, Machine, IsMachine, Jumps, Calls, Halts, Effect, Units, Instruction, Code, is_legal, State, next, Placed, BlockList, Exit, Next, Leaves, is_waiting, Held, means, Leave, ToBlock, ToNowhere, Undefined, leg, block_at, restart, leave_of, go_list}
use Rattle.tta_code.specs.Cycle as machine
use Rattle.tta_moves.specs.Meaning.{Waits as Stops}
use Rattle.tta_list.specs.Legs.{Run, Running, Halted, Waiting}
use Rattle.tta_list.proofs.Iterated.{iterate-add}
use Rattle.tta_sched_laws.specs.Overlap.{IsPlaced}
use Rattle.tta_sched_laws.proofs.Total.{do_moves, has_meaning, waits_at}
use Rattle.tta_sched_laws.proofs.Items.{timed, nth}
use Rattle.tta_sched_laws.proofs.Placing.{after}
use Rattle.tta_sched_laws.proofs.InBlock.{Matches}
use Rattle.tta_sched_laws.proofs.Block.{Stays, effects, leaves, Ends, Waits, block_ends, block_waits}
use Rattle.tta_sched_laws.proofs.Edges.{restarts}
use Rattle.tta_sched_laws.proofs.Placed.{effects_are, effects_take, stays_placed}
use Rattle.tta_sched_laws.proofs.Padded.{pad, some_or_none, all_same, all_wait, all_runs, meaning_same, meaning_padded}
use Rattle.tta_sched_laws.proofs.Leg.{es_of, padded, went, go_pad, go_is, onto, leg_onto, list_means, block_at_is, pad_none}

-- the blocks of a program in code: each as it was placed, one after another from the first address to the last
pub record IsRow (m : Machine) (code : Code) (addr : List ℕ) (lists : List BlockList) : Type 0 where
  pub placed : (k : ℕ) (b : BlockList) → slice_get lists k ≡ Some b → Placed
  pub is : (k : ℕ) (b : BlockList) (at : slice_get lists k ≡ Some b) → IsPlaced m code addr (slice_index addr k) b (placed k b at)
  pub follows : (k : ℕ) (b : BlockList) (at : slice_get lists k ≡ Some b) → slice_index addr (k + 1) ≡ slice_index addr k + (placed k b at).length
  pub first : slice_index addr 0 ≡ 0
  pub end : slice_index addr (length lists) ≡ length code.words

-- the machine is at the start of the block that comes next
pub record Goes (addr : List ℕ) (r : Run Held) (t : State) : Type 0 where
  pub match : Matches t r.state
  pub pending : t.pending ≡ None
  pub pc : t.pc ≡ slice_index addr r.block
  pub opens : r.state.exit ≡ Next

-- the machine has halted with the same spaces
pub record HasHalted (r : Run Held) (t : State) : Type 0 where
  pub outcome : t.outcome ≡ machine.Halted
  pub memory : t.memory ≡ r.state.memory
  pub rest : t.rest ≡ r.state.rest
  pub output : t.output ≡ r.state.output

-- the machine waits with the same streams
pub record HasStopped (r : Run Held) (t : State) : Type 0 where
  pub outcome : t.outcome ≡ machine.Waiting
  pub rest : t.rest ≡ r.state.rest
  pub output : t.output ≡ r.state.output

-- a state of the machine is what a run of lists has come to
pub data Tracks (addr : List ℕ) (r : Run Held) (t : State) : Type 0 where
  goes : r.outcome ≡ Running → Goes addr r t → Tracks addr r t
  halts : r.outcome ≡ Halted → HasHalted r t → Tracks addr r t
  stops : r.outcome ≡ Waiting → HasStopped r t → Tracks addr r t

module _ (u : Units) (m : Machine) (rules : IsMachine m) (code : Code) (legal : AllByRecursion (λ (i : Instruction). IsTrue (is_legal m i)) code.words)
    (addr : List ℕ) (lists : List BlockList) (row : IsRow m code addr lists) where
  abbrev go : ℕ → BlockList → Held → Held × Leave
  go = go_list u m addr

  abbrev run : ℕ → State → State
  run n s = iterate n (next u m code) s

  -- these are the lists from a block on
  abbrev pub From : ℕ → List BlockList → Type 0
  From k bs = (j : ℕ) (b : BlockList) → slice_get bs j ≡ Some b → slice_get lists (k + j) ≡ Some b

  from_first : (k : ℕ) (b : BlockList) (bs : List BlockList) → From k (b ∷ bs) → slice_get lists k ≡ Some b
  from_first k b bs f = let e : k + 0 ≡ k = omega arith in subst (λ (i : ℕ). slice_get lists i ≡ Some b) e (f 0 b refl)

  from_rest : (k : ℕ) (b : BlockList) (bs : List BlockList) → From k (b ∷ bs) → From (suc k) bs
  from_rest k b bs f j c e = let g : k + suc j ≡ suc k + j = omega arith in subst (λ (i : ℕ). slice_get lists i ≡ Some c) g (f (suc j) c e)

  -- addresses do not fall
  rises : (bs : List BlockList) (k : ℕ) → From k bs → slice_index addr k ≤ slice_index addr (k + length bs)
  rises [] k f = let e : k ≡ k + 0 = omega arith in subst (λ (i : ℕ). slice_index addr k ≤ slice_index addr i) e (omega arith)
  rises (b ∷ bs) k f =
      let at = from_first k b bs f in
      let next_is = row.follows k b at in
      let more = rises bs (suc k) (from_rest k b bs f) in
      let a : slice_index addr (k + 1) ≡ slice_index addr (suc k) = ap (slice_index addr) (let g : k + 1 ≡ suc k = omega arith in g) in
      let c : slice_index addr (suc k + length bs) ≡ slice_index addr (k + length (b ∷ bs)) = ap (slice_index addr) (let g : suc k + length bs ≡ k + length (b ∷ bs) = omega arith in g) in
      omega arith

  -- what one block does, where its list does not wait and where it does
  module _ (k : ℕ) (b : BlockList) (at : slice_get lists k ≡ Some b) (h : Held) (s : State) (match : Matches s h) (pending : s.pending ≡ None) (pc : s.pc ≡ slice_index addr k) (opens : h.exit ≡ Next) where
    abbrev back : ℕ
    back = slice_index addr (k + 1)

    abbrev es : List Effect
    es = es_of addr b

    abbrev p : Placed
    p = row.placed k b at

    runs_on : is_waiting h.exit ≡ false
    runs_on = ap is_waiting opens

    effects_is : effects (timed addr p.items) ≡ es
    effects_is = effects_are m rules code legal addr (slice_index addr k) b p (row.is k b at)

    stays : Stays m code s.pc p.length (timed addr p.items)
    stays = subst (λ (base : ℕ). Stays m code base p.length (timed addr p.items)) (sym pc) (stays_placed m rules code legal addr (slice_index addr k) b p (row.is k b at))

    behind : back ≡ s.pc + p.length
    behind = row.follows k b at ∙ ap (λ (n : ℕ). n + p.length) (sym pc)

    -- from the list's meaning, where missing words are 0
    ends : has_meaning u m back h es ≡ true → waits_at u m back h es ≡ None → Ends s p.length (do_moves u m back h es) (run p.length s)
    ends mean never =
        let mean' : has_meaning u m back h (effects (timed addr p.items)) ≡ true = subst (λ (q : List Effect). has_meaning u m back h q ≡ true) (sym effects_is) mean in
        let never' : waits_at u m back h (effects (timed addr p.items)) ≡ None = subst (λ (q : List Effect). waits_at u m back h q ≡ None) (sym effects_is) never in
        subst (λ (q : List Effect). Ends s p.length (do_moves u m back h q) (run p.length s)) effects_is
        (block_ends u m back code p.length (timed addr p.items) s h stays mean' opens behind pending match never')

    waits : has_meaning u m back h es ≡ true → (j : ℕ) → waits_at u m back h es ≡ Some j
        → (suc (nth (timed addr p.items) j).cycle ≤ p.length) × Waits (do_moves u m back h (take j es)) (run (suc (nth (timed addr p.items) j).cycle) s)
    waits mean j w =
        let mean' : has_meaning u m back h (effects (timed addr p.items)) ≡ true = subst (λ (q : List Effect). has_meaning u m back h q ≡ true) (sym effects_is) mean in
        let w' : waits_at u m back h (effects (timed addr p.items)) ≡ Some j = subst (λ (q : List Effect). waits_at u m back h q ≡ Some j) (sym effects_is) w in
        let r = block_waits u m back code p.length (timed addr p.items) s h stays mean' opens behind pending match j w' in
        let same : after u m back (timed addr p.items) h j ≡ do_moves u m back h (take j es) = ap (do_moves u m back h) (effects_take j (timed addr p.items) ∙ ap (take j) effects_is) in
        (r.0, subst (λ (g : Held). Waits g (run (suc (nth (timed addr p.items) j).cycle) s)) same r.1)

    some : 0 < p.length
    some = stays.keeps.some

  -- how many cycles a leg takes, and where it comes to
  pub record Left (k : ℕ) (bs : List BlockList) (h : Held) (s : State) : Type 0 where
    pub cycles : ℕ
    pub least : 0 < cycles
    pub most : slice_index addr k + cycles ≤ slice_index addr (k + length bs)
    pub tracks : Tracks addr (leg go k bs h) (run cycles s)

  -- a leg that comes to its end in one block
  one_block : (k : ℕ) (b : BlockList) (bs : List BlockList) (h : Held) (s : State) (f : From k (b ∷ bs)) (n len : ℕ) → 0 < n → n ≤ len → slice_index addr (k + 1) ≡ slice_index addr k + len
      → Tracks addr (leg go k (b ∷ bs) h) (run n s) → Left k (b ∷ bs) h s
  one_block k b bs h s f n len pos le step tracks = record {
    cycles = n;
    least = pos;
    most =
        let more = rises bs (suc k) (from_rest k b bs f) in
        let a : slice_index addr (k + 1) ≡ slice_index addr (suc k) = ap (slice_index addr) (let g : k + 1 ≡ suc k = omega arith in g) in
        let c : slice_index addr (suc k + length bs) ≡ slice_index addr (k + length (b ∷ bs)) = ap (slice_index addr) (let g : suc k + length bs ≡ k + length (b ∷ bs) = omega arith in g) in
        omega arith;
    tracks = tracks;
  }

  -- a leg that goes on after its first block
  more_blocks : (k : ℕ) (b : BlockList) (bs : List BlockList) (h h' : Held) (s s' : State) (len : ℕ) → 0 < len → slice_index addr (k + 1) ≡ slice_index addr k + len → run len s ≡ s'
      → leg go k (b ∷ bs) h ≡ leg go (suc k) bs h' → Left (suc k) bs h' s' → Left k (b ∷ bs) h s
  more_blocks k b bs h h' s s' len pos step is same left = record {
    cycles = len + left.cycles;
    least = omega arith;
    most =
        let l = left.most in
        let a : slice_index addr (k + 1) ≡ slice_index addr (suc k) = ap (slice_index addr) (let g : k + 1 ≡ suc k = omega arith in g) in
        let c : slice_index addr (suc k + length bs) ≡ slice_index addr (k + length (b ∷ bs)) = ap (slice_index addr) (let g : suc k + length bs ≡ k + length (b ∷ bs) = omega arith in g) in
        omega arith;
    tracks =
        subst (Tracks addr (leg go k (b ∷ bs) h)) (sym (iterate-add len left.cycles (next u m code) s ∙ ap (run left.cycles) is))
        (subst (λ (r : Run Held). Tracks addr r (run left.cycles s')) (sym same) left.tracks);
  }

  -- where a block's exit leads
  halted_is : (k : ℕ) (g : Held) (word : ℕ) (live : List (ℕ × ℕ)) (last : State) → Matches last g → Tracks addr (record { block = k; state = restart live g; outcome = Halted }) (leaves last (Leaves Halts word))
  halted_is k g word live last match = halts refl (record { outcome = refl; memory = match.memory; rest = match.rest; output = match.output })

  jumped_is : (g : Held) (word block : ℕ) (live : List (ℕ × ℕ)) (last : State) → Matches last g → slice_index addr block ≡ word
      → Tracks addr (record { block = block; state = restart live g; outcome = Running }) (record last { pending = None; pc = word })
  jumped_is g word block live last match e = goes refl (record { match = restarts last g live word match; pending = refl; pc = sym e; opens = refl })

  waited_is : (k : ℕ) (g : Held) (live : List (ℕ × ℕ)) (end : State) → Waits g end → Tracks addr (record { block = k; state = restart live (record g { exit = Stops }); outcome = Waiting }) end
  waited_is k g live end w = stops refl (record { outcome = w.outcome; rest = w.rest; output = w.output })

  -- a leg's first block
  module _ (k : ℕ) (b : BlockList) (bs : List BlockList) (f : From k (b ∷ bs)) (h : Held) (s : State) (match : Matches s h) (pending : s.pending ≡ None) (pc : s.pc ≡ slice_index addr k) (opens : h.exit ≡ Next)
      (defined : (n : ℕ) → (leg go k (b ∷ bs) (pad n h)).outcome ≢ Undefined) where
    abbrev at' : slice_get lists k ≡ Some b
    at' = from_first k b bs f

    abbrev len : ℕ
    len = (row.placed k b at').length

    abbrev all : Held
    all = do_moves u m (slice_index addr (k + 1)) h (es_of addr b)

    step : slice_index addr (k + 1) ≡ slice_index addr k + len
    step = row.follows k b at'

    runs' : is_waiting h.exit ≡ false
    runs' = ap is_waiting opens

    mean : means u m (slice_index addr (k + 1)) h (es_of addr b) ≡ true
    mean = list_means u m addr k b bs h (subst (λ (g : Held). (leg go k (b ∷ bs) g).outcome ≢ Undefined) (pad_none h) (defined 0))

    first_waits : (j : ℕ) → waits_at u m (slice_index addr (k + 1)) h (es_of addr b) ≡ Some j → Left k (b ∷ bs) h s
    first_waits j w =
        let total = meaning_padded u m (slice_index addr (k + 1)) (es_of addr b) h (length (es_of addr b)) runs' (omega arith) (list_means u m addr k b bs (pad (length (es_of addr b)) h) (defined (length (es_of addr b)))) in
        let r = waits k b at' h s match pending pc opens total j w in
        let end = all_wait u m (slice_index addr (k + 1)) (es_of addr b) h j runs' w in
        let g = do_moves u m (slice_index addr (k + 1)) h (take j (es_of addr b)) in
        let n = suc (nth (timed addr (row.placed k b at').items) j).cycle in
        let same : leg go k (b ∷ bs) h ≡ record { block = k; state = restart b.live_out (record g { exit = Stops }); outcome = Waiting } =
        leg_onto go k b bs h (went addr b (record g { exit = Stops })) (go_is u m addr k b h mean ∙ ap (went addr b) end) in
        one_block k b bs h s f n len (omega arith) r.0 step (subst (λ (q : Run Held). Tracks addr q (run n s)) (sym same) (waited_is k g b.live_out (run n s) r.1))

    first_goes : waits_at u m (slice_index addr (k + 1)) h (es_of addr b) ≡ None
        → ((h' : Held) (s' : State) → Matches s' h' → s'.pending ≡ None → s'.pc ≡ slice_index addr (suc k) → h'.exit ≡ Next → ((n : ℕ) → (leg go (suc k) bs (pad n h')).outcome ≢ Undefined) → Left (suc k) bs h' s')
        → Left k (b ∷ bs) h s
    first_goes never ih = by all.exit refl where
      r : Ends s len all (run len s)
      r = ends k b at' h s match pending pc opens (meaning_same u m (slice_index addr (k + 1)) (es_of addr b) h runs' never mean) never

      pos : 0 < len
      pos = some k b at' h s match pending pc opens

      whole : go k b h ≡ went addr b all
      whole = go_is u m addr k b h mean ∙ ap (went addr b) (all_same u m (slice_index addr (k + 1)) (es_of addr b) h runs' never)

      ends_as : (exit : Exit) → all.exit ≡ exit → run len s ≡ leaves r.last exit
      ends_as exit e = r.is ∙ ap (leaves r.last) e

      onto_as : (exit : Exit) → all.exit ≡ exit → leg go k (b ∷ bs) h ≡ onto go k bs h (restart b.live_out all, leave_of addr exit)
      onto_as exit e = leg_onto go k b bs h (restart b.live_out all, leave_of addr exit) (whole ∙ ap (λ (x : Exit). (restart b.live_out all, leave_of addr x)) e)

      jump : (word : ℕ) (o : Option ℕ) → block_at addr word ≡ o → run len s ≡ record r.last { pending = None; pc = word }
          → leg go k (b ∷ bs) h ≡ onto go k bs h (restart b.live_out all, option_map_or (λ (block : ℕ). ToBlock block) o ToNowhere) → Left k (b ∷ bs) h s
      jump word None e is same = absurd (subst (λ (g : Held). (leg go k (b ∷ bs) g).outcome ≢ Undefined) (pad_none h) (defined 0) (ap (λ (q : Run Held). q.outcome) same))
      jump word (Some block) e is same =
          one_block k b bs h s f len len pos (omega arith) step
          (subst (Tracks addr (leg go k (b ∷ bs) h)) (sym is) (subst (λ (q : Run Held). Tracks addr q (record r.last { pending = None; pc = word })) (sym same)
          (jumped_is all word block b.live_out r.last r.match (block_at_is addr word block e))))

      by : (exit : Exit) → all.exit ≡ exit → Left k (b ∷ bs) h s
      by Next e =
          let s' : State = record r.last { pending = None } in
          let pc' : s'.pc ≡ slice_index addr (suc k) = r.pc ∙ ap (λ (n : ℕ). n + len) pc ∙ sym step ∙ ap (slice_index addr) (let g : k + 1 ≡ suc k = omega arith in g) in
          more_blocks k b bs h (restart b.live_out all) s s' len pos step (ends_as Next e) (onto_as Next e)
          (ih (restart b.live_out all) s' (restarts r.last all b.live_out r.last.pc r.match) refl pc' refl
          (λ n. subst (λ (q : Run Held). q.outcome ≢ Undefined)
          (leg_onto go k b bs (pad n h) (padded n (restart b.live_out all, leave_of addr Next))
          (go_pad u m addr k b n h runs' never ∙ ap (padded n) (whole ∙ ap (λ (x : Exit). (restart b.live_out all, leave_of addr x)) e)))
          (defined n)))
      by (Leaves Jumps word) e = jump word (block_at addr word) refl (ends_as (Leaves Jumps word) e) (onto_as (Leaves Jumps word) e)
      by (Leaves Calls word) e = jump word (block_at addr word) refl (ends_as (Leaves Calls word) e) (onto_as (Leaves Calls word) e)
      by (Leaves Halts word) e =
          one_block k b bs h s f len len pos (omega arith) step
          (subst (Tracks addr (leg go k (b ∷ bs) h)) (sym (ends_as (Leaves Halts word) e)) (subst (λ (q : Run Held). Tracks addr q (leaves r.last (Leaves Halts word))) (sym (onto_as (Leaves Halts word) e))
          (halted_is k all word b.live_out r.last r.match)))
      by Stops e = let z = all_runs u m (slice_index addr (k + 1)) (es_of addr b) h runs' in let y : is_waiting all.exit ≡ true = ap is_waiting e in absurd cc

  -- a leg of lists that is somewhere, whatever input follows, is made by the machine
  pub leg_runs : (bs : List BlockList) (k : ℕ) (h : Held) (s : State) → From k bs → Matches s h → s.pending ≡ None → s.pc ≡ slice_index addr k → h.exit ≡ Next
      → ((n : ℕ) → (leg go k bs (pad n h)).outcome ≢ Undefined) → Left k bs h s
  leg_runs [] k h s f match pending pc opens d = absurd (d 0 refl)
  leg_runs (b ∷ bs) k h s f match pending pc opens d =
      elim (some_or_none (waits_at u m (slice_index addr (k + 1)) h (es_of addr b))) [
        | inl w ↦ first_waits k b bs f h s match pending pc opens d w.0 w.1
        | inr never ↦ first_goes k b bs f h s match pending pc opens d never
            (λ h' s' match' pending' pc' opens' d'. leg_runs bs (suc k) h' s' (from_rest k b bs f) match' pending' pc' opens' d')
      ]
