-- The run of the lists against the run of the machine.
use Rattle.std.proofs.Common.{◌≡◌, ◌≢◌, ◌⊎◌, inl, inr, ℕ, zero, suc, ◌+◌, ◌<◌, ◌≤◌, Bool, true, false, List, [], ◌∷◌, ◌++◌, Option, Some, None, refl, sym, ap, subst, ◌∙◌, arith, length, take, drop, replicate, ◌*◌, drop_of_length-le}
use Rattle.std.specs.Prelude.{slice_get, slice_index, IsTrue}
use Rattle.std.specs.List.{AllByRecursion}
use Rattle.tta_sched_laws.specs.Cited.{iterate, Machine, IsMachine, Units, Instruction, Code, is_legal, State, next, BlockList, Next, is_waiting, Held, does_all, means, Leave, ToNext, ToBlock, ToHalt, ToWait, ToNowhere, Undefined, leg, next_leg, restart, leave_of, go_list, lrun}
use Rattle.tta_code.specs.Cycle as machine
use Rattle.tta_moves.specs.Meaning.{Waits as Stops}
use Rattle.tta_list.specs.Legs.{Run, Running, Halted, Waiting}
use Rattle.tta_list.proofs.Iterated.{iterate-add}
use Rattle.tta_sched_laws.proofs.Total.{do_moves, waits_at}
use Rattle.std.proofs.lemmas.List.{length-drop}
use Rattle.std.proofs.lemmas.Bool.{cases_lt}
use Rattle.std.proofs.Math.Nat.{mul-suc}
use Rattle.tta_sched_laws.proofs.Padded.{pad}
use Rattle.tta_sched_laws.proofs.Leg.{es_of, padded, went, nowhere, go_pad, go_is, go_not, onto, leg_onto}
use Rattle.tta_sched_laws.proofs.Padded.{all_wait}
use Rattle.tta_sched_laws.proofs.Row.{IsRow, Goes, Tracks, goes, halts, stops, Left, leg_runs}

-- ---- more input

abbrev pub padded_run : ℕ → Run Held → Run Held
padded_run n r = record r { state = pad n r.state }

onto_padded : (u : Units) (m : Machine) (addr : List ℕ) (k : ℕ) (bs : List BlockList) (n : ℕ) (h h' : Held) (l : Leave)
    → (l ≡ ToNext → leg (go_list u m addr) (suc k) bs (pad n h') ≡ padded_run n (leg (go_list u m addr) (suc k) bs h'))
    → onto (go_list u m addr) k bs (pad n h) (padded n (h', l)) ≡ padded_run n (onto (go_list u m addr) k bs h (h', l))
onto_padded u m addr k bs n h h' ToNext ih = ih refl
onto_padded u m addr k bs n h h' (ToBlock block) ih = refl
onto_padded u m addr k bs n h h' ToHalt ih = refl
onto_padded u m addr k bs n h h' ToWait ih = refl
onto_padded u m addr k bs n h h' ToNowhere ih = refl

-- a leg that goes on does the same with more input
leg_pad : (u : Units) (m : Machine) (addr : List ℕ) (bs : List BlockList) (k n : ℕ) (h : Held) → h.exit ≡ Next → (leg (go_list u m addr) k bs h).outcome ≡ Running
    → leg (go_list u m addr) k bs (pad n h) ≡ padded_run n (leg (go_list u m addr) k bs h)
leg_pad u m addr [] k n h opens r = absurd cc
leg_pad u m addr (b ∷ bs) k n h opens r =
    by (means u m (slice_index addr (k + 1)) h (es_of addr b)) refl (waits_at u m (slice_index addr (k + 1)) h (es_of addr b)) refl (λ h' o q. leg_pad u m addr bs (suc k) n h' o q) where
      abbrev_runs : is_waiting h.exit ≡ false
      abbrev_runs = ap is_waiting opens

      by : (c : Bool) → means u m (slice_index addr (k + 1)) h (es_of addr b) ≡ c → (w : Option ℕ) → waits_at u m (slice_index addr (k + 1)) h (es_of addr b) ≡ w
          → ((h' : Held) → h'.exit ≡ Next → (leg (go_list u m addr) (suc k) bs h').outcome ≡ Running → leg (go_list u m addr) (suc k) bs (pad n h') ≡ padded_run n (leg (go_list u m addr) (suc k) bs h'))
          → leg (go_list u m addr) k (b ∷ bs) (pad n h) ≡ padded_run n (leg (go_list u m addr) k (b ∷ bs) h)
      by false e w q ih =
          let z : Undefined ≡ Running = sym (ap (λ (x : Run Held). x.outcome) (leg_onto (go_list u m addr) k b bs h (nowhere h) (go_not u m addr k b h e))) ∙ r in absurd cc
      by true e (Some j) q ih =
          let g = do_moves u m (slice_index addr (k + 1)) h (take j (es_of addr b)) in
          let is = leg_onto (go_list u m addr) k b bs h (went addr b (record g { exit = Stops })) (go_is u m addr k b h e ∙ ap (went addr b) (all_wait u m (slice_index addr (k + 1)) (es_of addr b) h j abbrev_runs q)) in
          let z : Waiting ≡ Running = sym (ap (λ (x : Run Held). x.outcome) is) ∙ r in absurd cc
      by true e None q ih =
          let g = does_all u m (slice_index addr (k + 1)) h (es_of addr b) in
          let is = leg_onto (go_list u m addr) k b bs h (went addr b g) (go_is u m addr k b h e) in
          let more = leg_onto (go_list u m addr) k b bs (pad n h) (padded n (went addr b g)) (go_pad u m addr k b n h abbrev_runs q ∙ ap (padded n) (go_is u m addr k b h e)) in
          more ∙ onto_padded u m addr k bs n h (restart b.live_out g) (leave_of addr g.exit)
          (λ l. ih (restart b.live_out g) refl
          (sym (ap (λ (x : Leave). (onto (go_list u m addr) k bs h (restart b.live_out g, x)).outcome) l) ∙ sym (ap (λ (x : Run Held). x.outcome) is) ∙ r))
          ∙ ap (padded_run n) (sym is)

-- ---- lists

get_drop : {A : Type 0} (k : ℕ) (xs : List A) (j : ℕ) (x : A) → slice_get (drop k xs) j ≡ Some x → slice_get xs (k + j) ≡ Some x
get_drop zero xs j x e = let g : j ≡ 0 + j = omega arith in subst (λ (i : ℕ). slice_get xs i ≡ Some x) g e
get_drop (suc k) [] j x e = absurd cc
get_drop (suc k) (y ∷ xs) j x e = let g : suc (k + j) ≡ suc k + j = omega arith in subst (λ (i : ℕ). slice_get (y ∷ xs) i ≡ Some x) g (get_drop k xs j x e)

-- ---- the run

module _ (u : Units) (m : Machine) (rules : IsMachine m) (code : Code) (legal : AllByRecursion (λ (i : Instruction). IsTrue (is_legal m i)) code.words)
    (addr : List ℕ) (lists : List BlockList) (row : IsRow m code addr lists) (memory input : List ℕ)
    (sound : (z n : ℕ) → (lrun u m lists addr memory (input ++ replicate z 0) n).outcome ≢ Undefined) where
  abbrev pub lists_at : ℕ → Run Held
  lists_at n = lrun u m lists addr memory input n

  abbrev pub cycles_at : ℕ → State
  cycles_at n = iterate n (next u m code) (machine.start m memory input)

  -- where the machine is when a number of legs is made
  pub record Reached (n : ℕ) : Type 0 where
    pub cycles : ℕ
    pub most : cycles ≤ length code.words * n
    pub least : (lists_at n).outcome ≡ Running → n ≤ cycles
    pub tracks : Tracks addr (lists_at n) (cycles_at cycles)
    -- more input makes no difference while the run goes on
    pub more : (lists_at n).outcome ≡ Running → (z : ℕ) → lrun u m lists addr memory (input ++ replicate z 0) n ≡ padded_run z (lists_at n)

  step : Run Held → Run Held
  step = next_leg (go_list u m addr) lists

  stays_halted : (r : Run Held) → r.outcome ≡ Halted → next_leg (go_list u m addr) lists r ≡ r
  stays_halted r e = rw e refl

  stays_waiting : (r : Run Held) → r.outcome ≡ Waiting → next_leg (go_list u m addr) lists r ≡ r
  stays_waiting r e = rw e refl

  goes_leg : (r : Run Held) → r.outcome ≡ Running → next_leg (go_list u m addr) lists r ≡ leg (go_list u m addr) r.block (drop r.block lists) r.state
  goes_leg r e = rw e refl

  at_first : Reached 0
  at_first = record {
    cycles = 0;
    most = omega arith;
    least = λ e. omega arith;
    tracks = goes refl (record {
      match = record {
        outcome = refl;
        kept = λ x kept w e. e;
        ports = λ unit w e. e;
        memory = refl;
        frame = refl;
        rest = refl;
        output = refl;
        settled = λ unit d late. refl;
      };
      pending = refl;
      pc = sym row.first;
      opens = refl;
    });
    more = λ e z. refl;
  }

  -- a run that is over stays where it is
  stays_there : (n : ℕ) (r : Reached n) → lists_at (suc n) ≡ lists_at n → (lists_at n).outcome ≢ Running → Reached (suc n)
  stays_there n r same over = record {
    cycles = r.cycles;
    most = let a = r.most in let b = mul-suc (length code.words) n in omega arith;
    least = λ e. absurd (over (sym (ap (λ (q : Run Held). q.outcome) same) ∙ e));
    tracks = subst (λ (q : Run Held). Tracks addr q (cycles_at r.cycles)) (sym same) r.tracks;
    more = λ e z. absurd (over (sym (ap (λ (q : Run Held). q.outcome) same) ∙ e));
  }

  -- one leg more
  goes_on : (n : ℕ) (r : Reached n) → (lists_at n).outcome ≡ Running → Goes addr (lists_at n) (cycles_at r.cycles) → Reached (suc n)
  goes_on n r e g = by (cases_lt (length lists) k) where
    k : ℕ
    k = (lists_at n).block

    bs : List BlockList
    bs = drop k lists

    is : lists_at (suc n) ≡ leg (go_list u m addr) k bs (lists_at n).state
    is = goes_leg (lists_at n) e

    is_padded : (z : ℕ) → lrun u m lists addr memory (input ++ replicate z 0) (suc n) ≡ leg (go_list u m addr) k bs (pad z (lists_at n).state)
    is_padded z = ap (next_leg (go_list u m addr) lists) (r.more e z) ∙ goes_leg (padded_run z (lists_at n)) e

    defined : (z : ℕ) → (leg (go_list u m addr) k bs (pad z (lists_at n).state)).outcome ≢ Undefined
    defined z = subst (λ (q : Run Held). q.outcome ≢ Undefined) (is_padded z) (sound z (suc n))

    left : Left u m rules code legal addr lists row k bs (lists_at n).state (cycles_at r.cycles)
    left = leg_runs u m rules code legal addr lists row bs k (lists_at n).state (cycles_at r.cycles) (λ j b q. get_drop k lists j b q) g.match g.pending g.pc g.opens defined

    by : (length lists < k) ⊎ (k ≤ length lists) → Reached (suc n)
    by (inl past) =
        let none : bs ≡ [] = drop_of_length-le lists (let h : length lists ≤ k = omega arith in h) in
        absurd (subst (λ (q : List BlockList). (leg (go_list u m addr) k q (pad 0 (lists_at n).state)).outcome ≢ Undefined) none (defined 0) refl)
    by (inr within) =
        let c = left.cycles in
        let all : k + length bs ≡ length lists = let l = length-drop k lists in omega arith in
        let top : slice_index addr (k + length bs) ≡ length code.words = ap (slice_index addr) all ∙ row.end in
        record {
          cycles = r.cycles + left.cycles;
          most = let a = r.most in let b = mul-suc (length code.words) n in let d = left.most in omega arith;
          least = λ e'. let a = r.least e in let b = left.least in omega arith;
          tracks = subst (λ (q : Run Held). Tracks addr q (cycles_at (r.cycles + left.cycles))) (sym is)
              (subst (Tracks addr (leg (go_list u m addr) k bs (lists_at n).state)) (sym (iterate-add r.cycles left.cycles (next u m code) (machine.start m memory input))) left.tracks);
          more = λ e' z. is_padded z ∙ leg_pad u m addr bs k z (lists_at n).state g.opens (sym (ap (λ (q : Run Held). q.outcome) is) ∙ e') ∙ ap (padded_run z) (sym is);
        }

  -- The machine makes each leg of the lists in at least one cycle, and in at most as many as there are instructions.
  pub reach : (n : ℕ) → Reached n
  reach zero = at_first
  reach (suc n) = on (reach n) (reach n).tracks where
    on : (r : Reached n) → Tracks addr (lists_at n) (cycles_at r.cycles) → Reached (suc n)
    on r (goes e g) = goes_on n r e g
    on r (halts e g) = stays_there n r (stays_halted (lists_at n) e) (λ q. let z : Halted ≡ Running = sym e ∙ q in absurd cc)
    on r (stops e g) = stays_there n r (stays_waiting (lists_at n) e) (λ q. let z : Waiting ≡ Running = sym e ∙ q in absurd cc)
