-- A cycle that faults or waits changes how the run stands, and nothing else.
use Rattle.std.proofs.Common.{◌≡◌, ℕ, ◌+◌, ◌==◌, Bool, true, false, if◌then◌else◌, ◌++◌, Option, Some, None, refl, sym, ap, ◌∙◌, true≢false}
use Rattle.std.specs.Prelude.{slice_get}
use Rattle.std.specs.List.{filter_map}
use Rattle.tta_play.specs.Cited.{Units, Machine, Kind, Jumps, Calls, Halts, control_of, first_some, bring, write_of, start_of, Code, Instruction, State, Outcome, Running, Pending, next, next_of, carry_out, or_fault, or_wait, waits, acts, lands, takes_effect, pending_after, effects_of, read_source, fault_of}
use Rattle.tta_code.specs.Cycle.{Halted, Waiting, Fault}

-- whether an outcome is that of a cycle that was carried out: the run goes on or has halted
abbrev went_well : Outcome → Bool
went_well Running = true
went_well Halted = true
went_well Waiting = false
went_well (Fault number at) = false

landed_well : (s : State) (o : Option Pending) → went_well s.outcome ≡ true → went_well (lands s o).outcome ≡ true
landed_well s None well = well
landed_well s (Some p) well = chosen (p.time == s.cycle) where
  took : (k : Kind) → went_well (takes_effect s (record p { kind = k })).outcome ≡ true
  took Jumps = well
  took Calls = well
  took Halts = refl

  chosen : (b : Bool) → went_well (if b then takes_effect s p else s).outcome ≡ true
  chosen true = took p.kind
  chosen false = well

-- where a cycle did not go well, it changed the outcome alone
abbrev Only : State → State → Type 0
Only s t = went_well t.outcome ≡ false → t ≡ record s { outcome = t.outcome }

only_wait : (s t : State) (must : Bool) → went_well t.outcome ≡ true → Only s (or_wait s must t)
only_wait s t true well ill = refl
only_wait s t false well ill = absurd (true≢false (sym well ∙ ill))

only_fault : (s t : State) (o : Option ℕ) → Only s t → Only s (or_fault s o t)
only_fault s t (Some number) only ill = refl
only_fault s t None only ill = only ill

only : (u : Units) (m : Machine) (s : State) (o : Option Instruction) → Only s (carry_out u m s o)
only u m s None = λ ill. refl
only u m s (Some i) =
    let effects = effects_of m i in
    let bs = filter_map (bring (read_source s)) effects in
    let written = filter_map (write_of m (s.pc + 1 + m.control.delay)) bs ++ s.written in
    let ts = filter_map (start_of m written) bs in
    only_fault s (or_wait s (waits s ts) (acts u m s bs ts written)) (fault_of s effects bs ts)
    (only_wait s (acts u m s bs ts written) (waits s ts) (landed_well _ (pending_after m s (first_some control_of bs)) refl))

-- a cycle that did not go well changed the outcome alone
unmade : (u : Units) (m : Machine) (code : Code) (s : State) → went_well (next u m code s).outcome ≡ false
    → next u m code s ≡ record s { outcome = (next u m code s).outcome }
unfolding next
unmade u m code s ill = of s s.outcome refl ill where
  of : (s : State) (o : Outcome) → s.outcome ≡ o → went_well (next_of u m code s o).outcome ≡ false
      → next_of u m code s o ≡ record s { outcome = (next_of u m code s o).outcome }
  of s Running is ill = only u m s (slice_get code.words s.pc) ill
  of s Halted is ill = refl
  of s Waiting is ill = refl
  of s (Fault number at) is ill = refl

-- so it took no word of the input
pub fault_takes_none : (u : Units) (m : Machine) (code : Code) (s : State) (number at : ℕ) → (next u m code s).outcome ≡ Fault number at
    → (next u m code s).rest ≡ s.rest
fault_takes_none u m code s number at is = ap (λ (t : State). t.rest) (unmade u m code s (ap went_well is))

-- and the control move under way is the same
pub fault_keeps_pending : (u : Units) (m : Machine) (code : Code) (s : State) (number at : ℕ) → (next u m code s).outcome ≡ Fault number at
    → (next u m code s).pending ≡ s.pending
fault_keeps_pending u m code s number at is = ap (λ (t : State). t.pending) (unmade u m code s (ap went_well is))
