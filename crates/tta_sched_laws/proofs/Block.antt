-- A block takes its length and leaves what its list leaves, or waits where its list waits.
use Rattle.std.proofs.Common.{◌≡◌, inl, inr, ℕ, zero, suc, ◌+◌, ◌-◌, ◌<◌, ◌≤◌, Bool, true, false, List, [], ◌∷◌, Option, Some, None, refl, sym, ap, subst, ◌∙◌, arith, length, map}
use Rattle.std.specs.Prelude.{not, ◌==◌, if◌then◌else◌}
use Rattle.std.specs.Option.{option_map_or}
use Rattle.std.proofs.lemmas.Bool.{cases_lt, not-true}
use Rattle.std.proofs.lemmas.Bool.Decides.{nat_tests}
use Rattle.std.proofs.lemmas.List.{take_all}
use Rattle.tta_sched_laws.specs.Cited.{iterate, Machine, Jumps, Calls, Halts, Effect, Units, Code, State, Pending, lands, next, Exit, Next, Leaves, Held, lacks, At}
use Rattle.tta_code.specs.Cycle.{Halted, Waiting}
use Rattle.tta_moves.specs.Meaning.{Waits as Stops}
use Rattle.tta_sched_laws.proofs.Total.{do_move, wants, do_moves, Timed}
use Rattle.tta_moves.specs.Meaning.{Waits as Stops}
use Rattle.tta_sched_laws.proofs.Total.{do_move, do_moves, has_meaning, wants, waits_at, Timed}
use Rattle.tta_sched_laws.proofs.Steps.{IsPlain}
use Rattle.tta_sched_laws.specs.Overlap.{space_by}
use Rattle.tta_sched_laws.proofs.Spaces.{HasOwners, wants_space}
use Rattle.tta_sched_laws.proofs.Bounds.{Keeps}
use Rattle.tta_sched_laws.proofs.Items.{nth, and_parts as and_split}
use Rattle.tta_sched_laws.proofs.Placing.{Carries, after, Fits}
use Rattle.tta_sched_laws.proofs.Zeros.{more}
use Rattle.tta_sched_laws.proofs.Listed.{Run, Stands, space_rises}
use Rattle.tta_sched_laws.proofs.Onward.{waits_here, streams_here}
use Rattle.tta_sched_laws.proofs.InBlock.{Matches, now_at, first_stands, runs, runs_more, runs_out, end_pending, end_kept, end_ports, end_settled, end_memory, end_frame, end_input, end_output}

-- a placed list in code, at an address
pub record Stays (m : Machine) (code : Code) (base len : ℕ) (placed : List Timed) : Type 0 where
  pub carries : Carries m code base len placed
  pub keeps : Keeps m placed len
  pub plain : (k : ℕ) → k < length placed → IsPlain m (nth placed k).does.target
  pub owners : HasOwners m

-- the effects of a placed list
abbrev pub effects : List Timed → List Effect
effects placed = map (λ (p : Timed). p.does) placed

-- what a list's exit makes of the state after its last cycle
abbrev pub leaves : State → Exit → State
leaves s Next = record s { pending = None }
leaves s (Leaves Jumps word) = record s { pending = None; pc = word }
leaves s (Leaves Calls word) = record s { pending = None; pc = word }
leaves s (Leaves Halts word) = record s { pending = None; outcome = Halted }
leaves s Stops = record s { pending = None }

-- a state that a block ends with: what its list leaves, with the list's exit taken
pub record Ends (s : State) (len : ℕ) (h : Held) (end : State) : Type 0 where
  pub last : State
  pub match : Matches last h
  pub pc : last.pc ≡ s.pc + len
  pub cycle : last.cycle ≡ s.cycle + len
  pub is : end ≡ leaves last h.exit

-- a state that waits, with the streams of a list
pub record Waits (h : Held) (end : State) : Type 0 where
  pub outcome : end.outcome ≡ Waiting
  pub output : end.output ≡ h.output
  pub rest : end.rest ≡ h.rest

meaning_at : (u : Units) (m : Machine) (back : ℕ) (ps : List Timed) (h : Held) (k : ℕ) → k < length ps → has_meaning u m back h (effects ps) ≡ true → lacks m (after u m back ps h k) (nth ps k).does ≡ false
meaning_at u m back [] h k lt e = absurd (omega arith)
meaning_at u m back (p ∷ ps) h zero lt e = not-true (lacks m h p.does) (and_split (not (lacks m h p.does)) _ e).0
meaning_at u m back (p ∷ ps) h (suc k) lt e = meaning_at u m back ps (do_move u m back h p.does) k (omega arith) (and_split (not (lacks m h p.does)) _ e).1

-- ---- where a list waits

-- the first move that wants a word
pub record FirstWant (u : Units) (m : Machine) (back : ℕ) (ps : List Timed) (h : Held) (k : ℕ) : Type 0 where
  pub within : k < length ps
  pub want : wants m (after u m back ps h k) (nth ps k).does ≡ true
  pub before : (i : ℕ) → i < k → wants m (after u m back ps h i) (nth ps i).does ≡ false

more_inj : (o : Option ℕ) (k : ℕ) → option_map_or (λ i. Some (suc i)) o None ≡ Some k → (i : ℕ) × (o ≡ Some i) × (k ≡ suc i)
more_inj None k e = absurd cc
more_inj (Some i) k e = (i, refl, let g : suc i ≡ k = cc in sym g)

more_none : (o : Option ℕ) → option_map_or (λ i. Some (suc i)) o None ≡ None → o ≡ None
more_none None e = refl
more_none (Some i) e = absurd cc

pub waits_first : (u : Units) (m : Machine) (back : ℕ) (ps : List Timed) (h : Held) (k : ℕ) → waits_at u m back h (effects ps) ≡ Some k → FirstWant u m back ps h k
waits_first u m back [] h k e = absurd cc
waits_first u m back (p ∷ ps) h k e = on (wants m h p.does) refl e (λ i q. waits_first u m back ps (do_move u m back h p.does) i q) where
  on : (b : Bool) → wants m h p.does ≡ b → (if b then Some 0 else option_map_or (λ i. Some (suc i)) (waits_at u m back (do_move u m back h p.does) (effects ps)) None) ≡ Some k
      → ((i : ℕ) → waits_at u m back (do_move u m back h p.does) (effects ps) ≡ Some i → FirstWant u m back ps (do_move u m back h p.does) i) → FirstWant u m back (p ∷ ps) h k
  on true w q ih =
      let z : 0 ≡ k = cc in
      subst (FirstWant u m back (p ∷ ps) h) z (record { within = omega arith; want = w; before = λ i lt. absurd (omega arith) })
  on false w q ih = let i = more_inj (waits_at u m back (do_move u m back h p.does) (effects ps)) k q in subst (FirstWant u m back (p ∷ ps) h) (sym i.2) (more w i.0 (ih i.0 i.1))
    where
      more : wants m h p.does ≡ false → (i : ℕ) → FirstWant u m back ps (do_move u m back h p.does) i → FirstWant u m back (p ∷ ps) h (suc i)
      more w i r = record { within = omega (arith, r.within); want = r.want; before = λ j lt. earlier j lt } where
        earlier : (j : ℕ) → j < suc i → wants m (after u m back (p ∷ ps) h j) (nth (p ∷ ps) j).does ≡ false
        earlier zero lt = w
        earlier (suc j) lt = r.before j (omega arith)

pub waits_never : (u : Units) (m : Machine) (back : ℕ) (ps : List Timed) (h : Held) → waits_at u m back h (effects ps) ≡ None → (k : ℕ) → k < length ps → wants m (after u m back ps h k) (nth ps k).does ≡ false
waits_never u m back [] h e k lt = absurd (omega arith)
waits_never u m back (p ∷ ps) h e k lt = on (wants m h p.does) refl e k lt (waits_never u m back ps (do_move u m back h p.does)) where
  on : (b : Bool) → wants m h p.does ≡ b → (if b then Some 0 else option_map_or (λ i. Some (suc i)) (waits_at u m back (do_move u m back h p.does) (effects ps)) None) ≡ None
      → (k : ℕ) → k < length (p ∷ ps) → (waits_at u m back (do_move u m back h p.does) (effects ps) ≡ None → (i : ℕ) → i < length ps → wants m (after u m back ps (do_move u m back h p.does) i) (nth ps i).does ≡ false)
      → wants m (after u m back (p ∷ ps) h k) (nth (p ∷ ps) k).does ≡ false
  on true w q k lt ih = absurd cc
  on false w q zero lt ih = w
  on false w q (suc k) lt ih = ih (more_none _ q) k (omega arith)

-- the control move that a list's exit leaves under way
abbrev due_at : ℕ → Exit → Option Pending
due_at time Next = None
due_at time (Leaves kind word) = Some (record { time = time; kind = kind; word = word })
due_at time Stops = None

lands_is : (s : State) (time : ℕ) (o : Exit) → s.cycle ≡ time → s.pending ≡ due_at time o → lands s s.pending ≡ leaves s o
lands_is s time Next e p = ap (lands s) p ∙ ap (λ q. record s { pending = q }) p
lands_is s time Stops e p = ap (lands s) p ∙ ap (λ q. record s { pending = q }) p
lands_is s time (Leaves Jumps w) e p = ap (lands s) p ∙ (let g : (time == s.cycle) ≡ true = grind (arith, nat_tests) in rw g refl)
lands_is s time (Leaves Calls w) e p = ap (lands s) p ∙ (let g : (time == s.cycle) ≡ true = grind (arith, nat_tests) in rw g refl)
lands_is s time (Leaves Halts w) e p = ap (lands s) p ∙ (let g : (time == s.cycle) ≡ true = grind (arith, nat_tests) in rw g refl)

-- ---- a block from its start

module _ (u : Units) (m : Machine) (back : ℕ) (code : Code) (len : ℕ) (placed : List Timed) (s : State) (h : Held)
    (stays : Stays m code s.pc len placed) (meaning : has_meaning u m back h (effects placed) ≡ true)
    (opens : h.exit ≡ Next) (ret_is : back ≡ s.pc + len) (pending : s.pending ≡ None) (match : Matches s h) where
  fits : (stop : ℕ) → stop ≤ len → ((k : ℕ) → k < length placed → wants m (after u m back placed h k) (nth placed k).does ≡ true → stop ≤ (nth placed k).cycle) → Fits u m back placed h len
  fits stop le dry = record {
    plain = stays.plain;
    owners = stays.owners;
    opens = opens;
    last = stays.keeps.last;
    ends = stays.keeps.ends;
    sets = λ k lt. meaning_at u m back placed h k lt meaning;
    within = stays.keeps.within;
    stop = stop;
    stops = le;
    dry = dry;
    shown_in = λ k x a lt e. stays.keeps.shown k (At x) a lt e;
    finds = stays.keeps.finds;
    rises = stays.keeps.rises;
    waits = stays.keeps.follows;
  }

  stop_is : (stop : ℕ) (le : stop ≤ len) (dry : (k : ℕ) → k < length placed → wants m (after u m back placed h k) (nth placed k).does ≡ true → stop ≤ (nth placed k).cycle) → (fits stop le dry).stop ≡ stop
  unfolding fits
  stop_is stop le dry = refl

  abbrev pub run_of : Fits u m back placed h len → Run
  run_of f = record { u = u; m = m; back = back; placed = placed; h = h; len = len; f = f; code = code; base = s.pc; begin = s.cycle; carries = stays.carries; back_is = ret_is }

  at_first : (f : Fits u m back placed h len) → Stands (run_of f) 0 s
  at_first f = first_stands (run_of f) s refl refl pending match

  whole : after u m back placed h (length placed) ≡ do_moves u m back h (effects placed)
  whole = ap (λ ps. do_moves u m back h (effects ps)) (take_all (length placed) placed (omega arith))

  -- a list that does not wait: the block takes its length and leaves what the list leaves
  pub block_ends : waits_at u m back h (effects placed) ≡ None → Ends s len (do_moves u m back h (effects placed)) (iterate len (next u m code) s)
  block_ends never =
      let le : len ≤ len = omega arith in
      let f = fits len le (dry never) in
      let out = runs_out (run_of f) s stays.keeps.some (stop_is len le (dry never)) (at_first f) in
      let e = out.0 in
      let last = out.1 in
      let ends : Ends s len (after u m back placed h (length placed)) (iterate len (next u m code) s) = record {
        last = e;
        match = record {
          outcome = last.outcome;
          kept = end_kept (run_of f) e last;
          ports = end_ports (run_of f) e last;
          memory = end_memory (run_of f) e last;
          frame = end_frame (run_of f) e last;
          rest = end_input (run_of f) e last;
          output = end_output (run_of f) e last;
          settled = λ unit d late.
              let at = last.cycle in
              let g : s.cycle + (d - s.cycle) ≡ d = omega arith in
              rw g at (end_settled (run_of f) e last unit (d - s.cycle) (omega arith));
        };
        pc = last.pc;
        cycle = last.cycle;
        is = out.2 ∙ lands_is e (s.cycle + len) (after u m back placed h (length placed)).exit last.cycle (end_pending (run_of f) e last);
      } in
      subst (λ g. Ends s len g (iterate len (next u m code) s)) whole ends where
        dry : waits_at u m back h (effects placed) ≡ None → (k : ℕ) → k < length placed → wants m (after u m back placed h k) (nth placed k).does ≡ true → len ≤ (nth placed k).cycle
        dry never k lt w = let g = waits_never u m back placed h never k lt in absurd cc

  -- what the machine is in a cycle of the block
  pub record InCycle (c : ℕ) : Type 0 where
    pub facts : Fits u m back placed h len
    pub stands : Stands (run_of facts) c (iterate c (next u m code) s)

  never_late : waits_at u m back h (effects placed) ≡ None → (k : ℕ) → k < length placed → wants m (after u m back placed h k) (nth placed k).does ≡ true → len ≤ (nth placed k).cycle
  never_late never k lt w = let g = waits_never u m back placed h never k lt in absurd cc

  pub block_in : waits_at u m back h (effects placed) ≡ None → (c : ℕ) → c < len → InCycle c
  block_in never c lt =
      let le : len ≤ len = omega arith in
      let f = fits len le (never_late never) in
      let stop_at = stop_is len le (never_late never) in
      record { facts = f; stands = runs (run_of f) c s lt (subst (λ q. c ≤ q) (sym stop_at) (omega arith)) (at_first f) }

  -- a list that waits
  module _ (k : ℕ) (waits : waits_at u m back h (effects placed) ≡ Some k) where
    first : FirstWant u m back placed h k
    first = waits_first u m back placed h k waits

    cycle : ℕ
    cycle = (nth placed k).cycle

    within : cycle < len
    unfolding cycle
    within = stays.keeps.within k first.within

    touched : (j : ℕ) → j < length placed → wants m (after u m back placed h j) (nth placed j).does ≡ true → (space_by m (nth placed j).does.target == 3) ≡ true
    touched j lj w = let e = wants_space m (after u m back placed h j) (nth placed j).does (stays.plain j lj) w in grind (arith, nat_tests)

    late : (j : ℕ) → j < length placed → wants m (after u m back placed h j) (nth placed j).does ≡ true → cycle ≤ (nth placed j).cycle
    unfolding cycle
    late j lj w = elim (cases_lt j k) [
      | inl less ↦ let g = first.before j less in absurd cc
      | inr le ↦ elim (cases_lt k j) [
        | inl more ↦
            let f0 = fits 0 (omega arith) (λ j lj w. omega arith) in
            let r = space_rises (run_of f0) 3 (omega arith) k j more lj (touched k first.within first.want) (touched j lj w) in
            omega arith
        | inr le' ↦ let e : k ≡ j = omega arith in subst (λ q. (nth placed k).cycle ≤ (nth placed q).cycle) e (omega arith)
      ]
    ]

    le : cycle ≤ len
    le = let w = within in omega arith

    facts : Fits u m back placed h len
    facts = fits cycle le late

    stop_at : facts.stop ≡ cycle
    unfolding facts
    stop_at = stop_is cycle le late

    pub block_waits_in : (c : ℕ) → c ≤ (nth placed k).cycle → InCycle c
    unfolding cycle
    block_waits_in c lc =
        let w = within in
        record { facts = facts; stands = runs (run_of facts) c s (omega arith) (subst (λ q. c ≤ q) (sym stop_at) lc) (at_first facts) }

    -- up to there more input makes no difference
    pub block_waits_more : (z c : ℕ) → c ≤ (nth placed k).cycle → iterate c (next u m code) (more z s) ≡ more z (iterate c (next u m code) s)
    unfolding cycle
    block_waits_more z c lc =
        let w = within in
        runs_more (run_of facts) z c s (omega arith) (subst (λ q. c ≤ q) (sym stop_at) lc) (at_first facts)

    -- the block waits in the cycle of the move that wants a word, with the streams of the list
    pub block_waits : (suc (nth placed k).cycle ≤ len) × Waits (after u m back placed h k) (iterate (suc (nth placed k).cycle) (next u m code) s)
    unfolding cycle
    block_waits =
        let w : (nth placed k).cycle < len = within in
        let st = block_waits_in (nth placed k).cycle (omega arith) in
        let t = iterate (nth placed k).cycle (next u m code) s in
        let stop = waits_here (now_at (run_of st.facts) (nth placed k).cycle t w st.stands) k first.within refl first.want in
        let streams = streams_here (now_at (run_of st.facts) (nth placed k).cycle t w st.stands) k first.within refl first.want in (
          omega arith,
          record {
            outcome = ap (λ (q : State). q.outcome) stop;
            output = ap (λ (q : State). q.output) stop ∙ streams.0;
            rest = ap (λ (q : State). q.rest) stop ∙ streams.1;
          },
        )
