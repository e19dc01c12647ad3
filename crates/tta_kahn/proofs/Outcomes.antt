-- What a cycle leaves that waits, and one that faults.
use Rattle.std.proofs.Common.{◌≡◌, ℕ, ◌+◌, ◌==◌, Bool, true, false, List, ◌++◌, Option, Some, None, refl, ap}
use Rattle.std.specs.Prelude.{if◌then◌else◌, slice_get}
use Rattle.std.specs.List.{filter_map}
use Rattle.tta_kahn.specs.Cited.{Units, Machine, Kind, Jumps, Calls, Halts, Written, Brought, Start, bring, write_of, start_of, control_of, first_some, Instruction, Code, Fault, Pending, read_source, effects_of, fault_of, pending_after, takes_effect, lands, acts, or_wait, or_fault}
use Rattle.tta_code.specs.Cycle.{State, Outcome, Running, Halted, Waiting, waits, carry_out, next_of, next}
use Rattle.tta_kahn.specs.Cluster.{is_waiting}

-- A step that waits, and one that faults, changes nothing but the outcome.
pub record ChangesSo (s next : State) : Type 0 where
  pub waits : is_waiting next.outcome ≡ true → next ≡ record s { outcome = Waiting }
  pub faults : (number at : ℕ) → next.outcome ≡ Fault number at → (next.output ≡ s.output) × (next.rest ≡ s.rest)

-- whether a run goes on or has halted
abbrev is_well : Outcome → Bool
is_well Running = true
is_well Halted = true
is_well Waiting = false
is_well (Fault number at) = false

lands_well : (s : State) (o : Option Pending) → is_well s.outcome ≡ true → is_well (lands s o).outcome ≡ true
lands_well s None well = well
lands_well s (Some p) well = by (p.time == s.cycle) where
  kind : (k : Kind) → p.kind ≡ k → is_well (takes_effect s p).outcome ≡ true
  kind Jumps e = rw e well
  kind Calls e = rw e well
  kind Halts e = rw e refl

  by : (b : Bool) → is_well (if b then takes_effect s p else s).outcome ≡ true
  by true = kind p.kind refl
  by false = well

well_so : (s next : State) → is_well next.outcome ≡ true → ChangesSo s next
well_so s next well = record { waits = waits next.outcome refl well; faults = faults next.outcome refl well } where
  waits : (o : Outcome) → next.outcome ≡ o → is_well o ≡ true → is_waiting o ≡ true → next ≡ record s { outcome = Waiting }
  waits Running e well is = absurd (let odd : false ≡ true = is in cc)
  waits Halted e well is = absurd (let odd : false ≡ true = is in cc)
  waits Waiting e well is = absurd (let odd : false ≡ true = well in cc)
  waits (Fault number at) e well is = absurd (let odd : false ≡ true = well in cc)

  faults : (o : Outcome) → next.outcome ≡ o → is_well o ≡ true → (number at : ℕ) → o ≡ Fault number at → (next.output ≡ s.output) × (next.rest ≡ s.rest)
  faults Running e well number at is = absurd cc
  faults Halted e well number at is = absurd cc
  faults Waiting e well number at is = absurd cc
  faults (Fault k c) e well number at is = absurd (let odd : false ≡ true = well in cc)

stays_so : (s : State) → ChangesSo s s
stays_so s = record { waits = waits s.outcome refl; faults = λ number at is. (refl, refl) } where
  waits : (o : Outcome) → s.outcome ≡ o → is_waiting o ≡ true → s ≡ record s { outcome = Waiting }
  waits Running e is = absurd (let odd : false ≡ true = is in cc)
  waits Halted e is = absurd (let odd : false ≡ true = is in cc)
  waits Waiting e is = ap (λ (o : Outcome). record s { outcome = o }) e
  waits (Fault number at) e is = absurd (let odd : false ≡ true = is in cc)

pub changes : (u : Units) (m : Machine) (code : Code) (s : State) → ChangesSo s (next u m code s)
unfolding next
changes u m code s = on s.outcome where
  word : (o : Option Instruction) → ChangesSo s (carry_out u m s o)
  word None = record { waits = λ is. absurd (let odd : false ≡ true = is in cc); faults = λ number at is. (refl, refl) }
  word (Some i) = fault (fault_of s (effects_of m i) bs ts) where
    bs : List Brought
    bs = filter_map (bring (read_source s)) (effects_of m i)

    written : Written
    written = filter_map (write_of m (s.pc + 1 + m.control.delay)) bs ++ s.written

    ts : List Start
    ts = filter_map (start_of m written) bs

    wait : (b : Bool) → ChangesSo s (or_wait s b (acts u m s bs ts written))
    wait true = record { waits = λ is. refl; faults = λ number at is. (refl, refl) }
    wait false = well_so s (acts u m s bs ts written) (lands_well _ (pending_after m s (first_some control_of bs)) refl)

    fault : (o : Option ℕ) → ChangesSo s (or_fault s o (or_wait s (waits s ts) (acts u m s bs ts written)))
    fault None = wait (waits s ts)
    fault (Some number) = record { waits = λ is. absurd (let odd : false ≡ true = is in cc); faults = λ k at is. (refl, refl) }

  on : (o : Outcome) → ChangesSo s (next_of u m code s o)
  on Running = word (slice_get code.words s.pc)
  on Halted = stays_so s
  on Waiting = stays_so s
  on (Fault number at) = stays_so s
