-- The control move that is under way after a cycle.
use Rattle.std.proofs.Common.{◌≡◌, ℕ, ◌+◌, ◌==◌, Bool, true, false, List, [], ◌∷◌, ◌++◌, Option, None, Some, map, refl, sym, ap, ◌∙◌, arith}
use Rattle.std.specs.Prelude.{fold, if◌then◌else◌, is_some, option_and_then, option_map, slice_get}
use Rattle.std.specs.Option.{option_map_or}
use Rattle.std.specs.List.{cons_option, filter_map}
use Rattle.tta_arch.specs.declared.parts.Template.{Template}
use Rattle.tta_play.specs.Cited.{Units, Machine, Kind, Jumps, Calls, Halts, Brought, Start, Written, bring, write_of, start_of, first_some, or_else, control_of, long_effect, store_data, store_frame, take_in, put_out, Code, Instruction, Long, Move, State, Pending, Running, next, next_of, carry_out, or_fault, or_wait, acts, lands, takes_effect, waits, fault_of, effect_of, effects_of, long_effects, read_source, result_of, pending_after, coming, slots_of, is_halted, CycleStep, Ran, Held, GoesTo, IsAnswer, cycles_of, went_on}
use Rattle.tta_sim.specs.declared.cycle_step.CycleStep.TheVariants.{Halted, Waiting, Fault}
use Rattle.tta_play.specs.declared.control.UnderWay.{UnderWay}
use Rattle.tta_play.specs.Controls.{control_in, acts_in, pending_of, started, unless_now, Follows}

-- ---- which control move acts

module _ (m : Machine) (s : State) where
  -- a long immediate is none
  long_none : (long : Option Long) → first_some control_of (filter_map (bring (read_source s)) (long_effects m long)) ≡ None
  long_none None = refl
  long_none (Some l) = by (slice_get m.templates l.template) where
    by : (o : Option Template)
        → first_some control_of (filter_map (bring (read_source s)) (option_map_or (λ t. long_effect t.imm t.reg l.value ∷ []) o [])) ≡ None
    by None = refl
    by (Some t) = refl

  -- the first among the effects is the first among the slots
  first_acting : (slots : List (Option Move)) (long : Option Long)
      → first_some control_of (filter_map (bring (read_source s)) (map effect_of (filter_map (λ o. o) slots) ++ long_effects m long)) ≡ first_some (control_in s) slots
  first_acting [] long = long_none long
  first_acting (None ∷ slots) long = first_acting slots long
  first_acting (Some v ∷ slots) long =
      by (bring (read_source s) (effect_of v)) (filter_map (bring (read_source s)) (map effect_of (filter_map (λ o. o) slots) ++ long_effects m long)) (first_acting slots long) where
        by : (b : Option Brought) (rest : List Brought) → first_some control_of rest ≡ first_some (control_in s) slots
            → first_some control_of (cons_option b rest) ≡ or_else (option_and_then control_of b) (first_some (control_in s) slots)
        by None rest same = same
        by (Some b) rest same = ap (or_else (control_of b)) same

-- ---- what is under way

-- a control move that takes effect is not under way any more
lands_pending : (s : State) (o : Option Pending) → s.pending ≡ o → (lands s o).pending ≡ unless_now s.cycle o
lands_pending s None is = is
lands_pending s (Some p) is = chosen (p.time == s.cycle) where
  took : (k : Kind) → (takes_effect s (record p { kind = k })).pending ≡ None
  took Jumps = refl
  took Calls = refl
  took Halts = refl

  chosen : (b : Bool) → (if b then takes_effect s p else s).pending ≡ (if b then None else Some p)
  chosen true = took p.kind
  chosen false = is

module _ (u : Units) (m : Machine) (code : Code) where
  abbrev step : State → State
  step = next u m code

  -- what is under way after a cycle in which this control move acted
  abbrev left_by : State → Option (Kind × ℕ) → Option Pending
  left_by s c = unless_now (s.cycle + 1) (started (s.cycle + 1) m.control.delay s.pending c)

  same_after : (s : State) (c : Option (Kind × ℕ)) → pending_after m s c ≡ started (s.cycle + 1) m.control.delay s.pending c
  same_after s None = refl
  same_after s (Some c) = refl

  acts_pending : (s : State) (bs : List Brought) (ts : List Start) (written : Written) → (acts u m s bs ts written).pending ≡ left_by s (first_some control_of bs)
  acts_pending s bs ts written =
      let pending = pending_after m s (first_some control_of bs) in
      lands_pending (record {
        written = written;
        started = filter_map (result_of u s) ts ++ s.started;
        memory = fold store_data s.memory ts;
        frame = fold store_frame s.frame ts;
        rest = fold take_in s.rest ts;
        output = fold put_out s.output ts;
        pc = s.pc + 1;
        cycle = s.cycle + 1;
        pending = pending;
        outcome = Running;
      }) pending refl
      ∙ ap (unless_now (s.cycle + 1)) (same_after s (first_some control_of bs))

  -- a cycle that is counted neither faults nor waits
  or_not : (s : State) (fault : Option ℕ) (wait : Bool) (t : State) (p : Option Pending) → t.pending ≡ p
      → (or_fault s fault (or_wait s wait t)).cycle ≡ s.cycle + 1 → (or_fault s fault (or_wait s wait t)).pending ≡ p
  or_not s (Some number) wait t p is counted = absurd (omega (arith, counted))
  or_not s None true t p is counted = absurd (omega (arith, counted))
  or_not s None false t p is counted = is

  carried_out : (s : State) (o : Option Instruction) → (carry_out u m s o).cycle ≡ s.cycle + 1
      → (carry_out u m s o).pending ≡ left_by s (first_some (control_in s) (slots_of o))
  carried_out s None counted = absurd (omega (arith, counted))
  carried_out s (Some i) counted =
      let bs = filter_map (bring (read_source s)) (effects_of m i) in
      let written = filter_map (write_of m (s.pc + 1 + m.control.delay)) bs ++ s.written in
      let ts = filter_map (start_of m written) bs in
      or_not s (fault_of s (effects_of m i) bs ts) (waits s ts) (acts u m s bs ts written) (left_by s (first_some (control_in s) i.moves))
      (acts_pending s bs ts written ∙ ap (left_by s) (first_acting m s i.moves i.long)) counted

  -- the same of a state that runs
  pub pending_on : (s : State) → s.outcome ≡ Running → (step s).cycle ≡ s.cycle + 1 → (step s).pending ≡ left_by s (acts_in code.words s)
  unfolding next
  pending_on s runs counted =
      let is : step s ≡ carry_out u m s (slice_get code.words s.pc) = ap (next_of u m code s) runs in
      let here : coming code.words s ≡ slice_get code.words s.pc = ap (λ (b : Bool). if b then None else slice_get code.words s.pc) (ap is_halted runs) in
      ap (λ (t : State). t.pending) is ∙ carried_out s (slice_get code.words s.pc) (sym (ap (λ (t : State). t.cycle) is) ∙ counted)
      ∙ ap (λ o. left_by s (first_some (control_in s) (slots_of o))) (sym here)

  -- what is followed is under way after a cycle that was carried out
  pub followed : (old new : Held) (before after : Option UnderWay) (control : Option (Kind × ℕ)) (now delay : ℕ) (s : State) → Follows old before s → (a : CycleStep)
      → is_some (went_on a) ≡ true → new.cycle ≡ old.cycle + cycles_of a → GoesTo new s (step s) a → IsAnswer u m code s a → now ≡ new.cycle → delay ≡ m.control.delay
      → control ≡ acts_in code.words s → option_map pending_of after ≡ unless_now now (started now delay (option_map pending_of before) control) → Follows new after (step s)
  followed old new before after control now delay s was (Ran word took) some counted goes answer at slots acts is =
      let at_first = was.stands.cycle in
      let next_cycle = goes.cycle in
      let more : now ≡ s.cycle + 1 = omega (arith, counted, at_first, at) in
      let made : (step s).cycle ≡ s.cycle + 1 = omega (arith, counted, at_first, next_cycle) in
      record {
        stands = goes;
        pending = is ∙ ap (λ n. unless_now n (started n delay (option_map pending_of before) control)) more
            ∙ ap (λ d. unless_now (s.cycle + 1) (started (s.cycle + 1) d (option_map pending_of before) control)) slots
            ∙ ap (λ p. unless_now (s.cycle + 1) (started (s.cycle + 1) m.control.delay p control)) was.pending
            ∙ ap (left_by s) acts ∙ sym (pending_on s answer.0 made);
      }
  followed old new before after control now delay s was Halted some counted goes answer at slots acts is = absurd cc
  followed old new before after control now delay s was Waiting some counted goes answer at slots acts is = absurd cc
  followed old new before after control now delay s was (Fault number) some counted goes answer at slots acts is = absurd cc
