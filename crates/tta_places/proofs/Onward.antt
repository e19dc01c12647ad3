-- What a cycle that was carried out has written.
use Rattle.std.proofs.Common.{◌≡◌, ℕ, ◌+◌, Bool, true, false, List, [], ◌++◌, Option, None, Some, sym, ap, ◌∙◌, arith}
use Rattle.std.specs.Prelude.{fold, if◌then◌else◌, slice_get}
use Rattle.std.specs.Option.{option_map_or}
use Rattle.std.specs.List.{filter_map}
use Rattle.tta_places.specs.Cited.{Units, Machine, Brought, Start, Written, bring, write_of, start_of, first_some, control_of, store_data, store_frame, take_in, put_out, Code, Instruction, State, Running, next, next_of, carry_out, or_fault, or_wait, acts, waits, fault_of, effects_of, read_source, result_of, pending_after, is_halted}
use Rattle.tta_places.specs.Carried.{coming}
use Rattle.tta_places.specs.Writes.{writes_in, cycle_writes}
use Rattle.tta_places.proofs.Wrote.{written_in, lands_writes}

module _ (u : Units) (m : Machine) (code : Code) where
  abbrev step : State → State
  step = next u m code

  -- a cycle without a fault has what was written
  acts_writes : (s : State) (bs : List Brought) (ts : List Start) (written : Written) → (acts u m s bs ts written).written ≡ written
  acts_writes s bs ts written =
      lands_writes (record {
        written = written;
        started = filter_map (result_of u s) ts ++ s.started;
        memory = fold store_data s.memory ts;
        frame = fold store_frame s.frame ts;
        rest = fold take_in s.rest ts;
        output = fold put_out s.output ts;
        pc = s.pc + 1;
        cycle = s.cycle + 1;
        pending = pending_after m s (first_some control_of bs);
        outcome = Running;
      }) (pending_after m s (first_some control_of bs))

  -- a cycle that is counted neither faults nor waits
  or_not : (s : State) (fault : Option ℕ) (wait : Bool) (t : State) (written : Written) → t.written ≡ written
      → (or_fault s fault (or_wait s wait t)).cycle ≡ s.cycle + 1 → (or_fault s fault (or_wait s wait t)).written ≡ written
  or_not s (Some number) wait t written is counted = absurd (omega (arith, counted))
  or_not s None true t written is counted = absurd (omega (arith, counted))
  or_not s None false t written is counted = is

  -- a cycle that is counted has an instruction, and writes what that writes
  carried_out : (s : State) (o : Option Instruction) → (carry_out u m s o).cycle ≡ s.cycle + 1
      → (carry_out u m s o).written ≡ option_map_or (writes_in m (s.pc + 1 + m.control.delay) s) o [] ++ s.written
  carried_out s None counted = absurd (omega (arith, counted))
  carried_out s (Some i) counted =
      let bs = filter_map (bring (read_source s)) (effects_of m i) in
      let written = filter_map (write_of m (s.pc + 1 + m.control.delay)) bs ++ s.written in
      let ts = filter_map (start_of m written) bs in
      or_not s (fault_of s (effects_of m i) bs ts) (waits s ts) (acts u m s bs ts written) (writes_in m (s.pc + 1 + m.control.delay) s i ++ s.written)
      (acts_writes s bs ts written ∙ ap (λ l. l ++ s.written) (written_in m (s.pc + 1 + m.control.delay) s i)) counted

  -- the same of a state that runs
  pub written_on : (s : State) → s.outcome ≡ Running → (step s).cycle ≡ s.cycle + 1 → (step s).written ≡ cycle_writes m code s ++ s.written
  unfolding next
  written_on s runs counted =
      let is : step s ≡ carry_out u m s (slice_get code.words s.pc) = ap (next_of u m code s) runs in
      let here : coming code.words s ≡ slice_get code.words s.pc = ap (λ (b : Bool). if b then None else slice_get code.words s.pc) (ap is_halted runs) in
      ap (λ (t : State). t.written) is ∙ carried_out s (slice_get code.words s.pc) (sym (ap (λ (t : State). t.cycle) is) ∙ counted)
      ∙ ap (λ o. option_map_or (writes_in m (s.pc + 1 + m.control.delay) s) o [] ++ s.written) (sym here)
