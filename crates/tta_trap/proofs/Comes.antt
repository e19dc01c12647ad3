-- What the next cycle of a state that runs comes to.
use Rattle.std.proofs.Common.{◌≡◌, ℕ, ◌+◌, ◌<◌, ◌==◌, Bool, true, false, List, [], ◌∷◌, Option, Some, None, slice_get, refl, sym, ap, ◌∙◌, subst, arith}
use Rattle.std.specs.Prelude.{if◌then◌else◌}
use Rattle.std.specs.List.{list_any, AllByRecursion}
use Rattle.std.proofs.lemmas.Option.{none-some, same_Some}
use Rattle.std.proofs.lemmas.Bool.{false≢true}
use Rattle.tta_arch.specs.Effects.{Kind, Jumps, Calls, Halts, lacks_operand, first_some, control_of}
use Rattle.tta_code.specs.Cycle.{Pending, takes_effect, lands, carry_out, or_fault, or_wait, waits, acts, fault_of, first_fault, effects_of, reads_unset_register, reads_unset_port, clashes, jumps_in_delay, pending_after, next_of}
use Rattle.tta_code.specs.declared.code.Code.{Code as Program}
use Rattle.tta_code.specs.declared.code.Instruction.{Instruction}
use Rattle.tta_trap.specs.Cited.{Units, Machine, State, Outcome, Running, Halted, Waiting, Fault, next, is_fault}
use Rattle.tta_hardware.specs.Theorem.{is_waiting}
use Rattle.tta_hardware.specs.Laws.{brought, written_after, started_in}
use Rattle.tta_hardware.proofs.Faultless.{lands_same}
use Rattle.tta_hardware.proofs.Stepping.{next_is}
use Rattle.tta_trap.specs.Tells.{fault_number}

-- the cycle of a fault
abbrev pub fault_cycle : Outcome → ℕ
fault_cycle Running = 0
fault_cycle Halted = 0
fault_cycle Waiting = 0
fault_cycle (Fault number cycle) = cycle

-- A fault has a number that is not 0, and the cycle that was to come. Where there is none, and nothing is waited for, a cycle is counted.
pub record Comes (s t : State) : Type 0 where
  pub told : is_fault t.outcome ≡ true → (0 < fault_number t.outcome) × (t.outcome ≡ Fault (fault_number t.outcome) s.cycle)
  pub counted : is_fault t.outcome ≡ false → is_waiting t.outcome ≡ false → t.cycle ≡ s.cycle + 1

-- the first of some faults is one of them
first_some_fault : (fs : List (Bool × ℕ)) (n : ℕ) → AllByRecursion (λ f. 0 < f.1) fs → first_fault fs ≡ Some n → 0 < n
first_some_fault [] n all is = absurd (none-some n is)
first_some_fault (f ∷ fs) n all is = by f.0 is (first_some_fault fs n all.1) where
  by : (b : Bool) → (if b then Some f.1 else first_fault fs) ≡ Some n → (first_fault fs ≡ Some n → 0 < n) → 0 < n
  by true is rest = let same = same_Some f.1 n is in let some = all.0 in omega (arith, same, some)
  by false is rest = rest is

-- control that takes effect is no fault
lands_fine : (s : State) (p : Option Pending) → s.outcome ≡ Running → is_fault (lands s p).outcome ≡ false
lands_fine s None runs = ap is_fault runs
lands_fine s (Some p) runs = by (p.time == s.cycle) where
  of : (k : Kind) → is_fault (takes_effect s (record p { kind = k })).outcome ≡ false
  of Jumps = ap is_fault runs
  of Calls = ap is_fault runs
  of Halts = refl

  by : (b : Bool) → is_fault (if b then takes_effect s p else s).outcome ≡ false
  by true = of p.kind
  by false = ap is_fault runs

module _ (u : Units) (m : Machine) (code : Program) (s : State) (runs : s.outcome ≡ Running) where
  module _ (i : Instruction) where
    abbrev acted : State
    acted = acts u m s (brought m s i) (started_in m s i) (written_after m s i)

    abbrev found : Option ℕ
    found = fault_of s (effects_of m i) (brought m s i) (started_in m s i)

    acted_comes : Comes s acted
    acted_comes = record {
      told = λ is. absurd (false≢true (sym (lands_fine _ (pending_after m s (first_some control_of (brought m s i))) refl) ∙ is));
      counted = λ fine on. (lands_same _ (pending_after m s (first_some control_of (brought m s i))) refl).cycle;
    }

    waited_comes : (b : Bool) → Comes s (or_wait s b acted)
    waited_comes true = record {
      told = λ is. absurd (false≢true is);
      counted = λ fine on. absurd (false≢true (sym on));
    }
    waited_comes false = acted_comes

    some_number : (n : ℕ) → found ≡ Some n → 0 < n
    some_number n is =
        first_some_fault (
        (list_any (reads_unset_register s) (effects_of m i), 60)
        ∷ (list_any (reads_unset_port s) (effects_of m i), 61)
        ∷ (list_any lacks_operand (started_in m s i), 62)
        ∷ (list_any (clashes s) (started_in m s i), 63)
        ∷ (jumps_in_delay s (brought m s i), 64)
        ∷ []) n (omega arith, (omega arith, (omega arith, (omega arith, (omega arith, tt))))) is

    fault_comes : (o : Option ℕ) → found ≡ o → Comes s (or_fault s o (or_wait s (waits s (started_in m s i)) acted))
    fault_comes (Some n) is = record {
      told = λ it. (some_number n is, refl);
      counted = λ fine on. absurd (false≢true (sym fine));
    }
    fault_comes None is = waited_comes (waits s (started_in m s i))

  carried : (o : Option Instruction) → Comes s (carry_out u m s o)
  carried None = record {
    told = λ it. (omega arith, refl);
    counted = λ fine on. absurd (false≢true (sym fine));
  }
  carried (Some i) = fault_comes i (found i) refl

  pub comes : Comes s (next u m code s)
  comes = subst (Comes s) (sym (next_is u m code s runs)) (carried (slice_get code.words s.pc))

-- a state that has halted stays
pub stays_halted : (u : Units) (m : Machine) (code : Program) (s : State) → s.outcome ≡ Halted → next u m code s ≡ s
unfolding next
stays_halted u m code s halted = ap (next_of u m code s) halted
