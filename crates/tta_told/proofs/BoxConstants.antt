-- Constants in what a circuit has more that leaves operations to modules are narrow.
use Rattle.std.proofs.Common.{◌≡◌, ℕ, ◌+◌, ◌==◌, Bool, true, false, ◌&&◌, Some, refl}
use Rattle.std.specs.Prelude.{if◌then◌else◌, nat_lt}
use Rattle.tta_ops.specs.Units.{Units}
use Rattle.tta_arch.specs.Over.{StandsOver}
use Rattle.tta_circuit.specs.Circuit.{Register, Const, Signal, Select}
use Rattle.tta_hardware.specs.Cited.{Machine, IsMachine, UnitOp, op_at, has_result, KeptPort}
use Rattle.tta_hardware.specs.Signals.{Signal as Named, Store, Keeps, Due, HasBegun, Port, Starts, Shows, IsFrom, Boxes}
use Rattle.tta_hardware.specs.Chains.{first_of}
use Rattle.tta_hardware.specs.Wires.{never, nothing, ops_of, loads, fresh, result_of, timed, begins, made, longest, is_coming, coming}
use Rattle.tta_hardware.proofs.WiresFit.{kept_filter}
use Rattle.tta_hardware.proofs.RegistersFit.{weaker}
use Rattle.tta_hardware.proofs.PlainWires.{all_each}
use Rattle.tta_hardware.proofs.OnlyThere.{ops_there}
use Rattle.tta_boxed.specs.Boxed.{is_left, left_ops, kept_result, kept_made, is_picked, was_from, from_next, shown, coming_next, boxed_register}
use Rattle.tta_told.proofs.Narrow.{narrow}
use Rattle.tta_told.proofs.Constants.{three, first_narrow}
use Rattle.tta_told.proofs.WireConstants.{fresh_narrow, result_narrow, begins_narrow, made_narrow, is_coming_narrow, coming_narrow}

module _ (u : Units) (m : Machine) (rules : IsMachine m) (over : StandsOver u m) (leaves : ℕ → Bool) where
  kept_narrow : (unit latency : ℕ) → narrow m (kept_made m leaves unit latency) ≡ true
  kept_narrow unit latency =
      first_narrow m (λ (o : ℕ × UnitOp). Signal (Starts unit o.0)) (λ o. kept_result m leaves unit o.1) (timed m unit latency) nothing
      (weaker (λ (o : ℕ × UnitOp). op_at m unit o.0 ≡ Some o.1)
      (λ o. (narrow m (Signal (Starts unit o.0)) ≡ true) × (narrow m (kept_result m leaves unit o.1) ≡ true)) (timed m unit latency)
      (λ o at. (refl, by o.0 o.1 at (is_left m leaves o.1)))
      (kept_filter (λ (o : ℕ × UnitOp). op_at m unit o.0 ≡ Some o.1) (λ o. has_result o.1.op && o.1.latency == latency) (ops_of m unit)
      (ops_there m unit))) refl
    where
      by : (k : ℕ) (o : UnitOp) → op_at m unit k ≡ Some o → (b : Bool) → narrow m (if b then nothing else result_of m unit o) ≡ true
      by k o at true = refl
      by k o at false = result_narrow u m rules over unit k o at

  picked_narrow : (unit op latency : ℕ) → narrow m (is_picked m leaves unit op latency) ≡ true
  picked_narrow unit op latency =
      first_narrow m (λ (o : ℕ × UnitOp). Signal (Starts unit o.0)) (λ o. Const 1 (if o.0 == op then 1 else 0)) (timed m unit latency) never
      (all_each _ (timed m unit latency) (λ o. (refl, refl))) refl

  was_narrow : (unit op delay : ℕ) → narrow m (was_from m leaves unit op delay) ≡ true
  was_narrow unit op delay =
      first_narrow m (λ (o : ℕ × UnitOp). Signal (HasBegun unit o.0)) (λ o. never) (loads m unit (delay + 1))
      (Signal (Boxes (IsFrom unit op delay))) (all_each _ (loads m unit (delay + 1)) (λ o. (refl, refl))) refl

  pub from_narrow : (unit op latency delay : ℕ) → narrow m (from_next m leaves unit op latency delay) ≡ true
  from_narrow unit op latency delay =
      three m (begins m unit (delay + 1)) (if latency == delay + 1 then is_picked m leaves unit op latency else never)
      (if nat_lt (delay + 1) latency then was_from m leaves unit op (delay + 1) else never)
      (begins_narrow u m rules over unit (delay + 1)) (picked (latency == delay + 1)) (was (nat_lt (delay + 1) latency))
    where
      picked : (b : Bool) → narrow m (if b then is_picked m leaves unit op latency else never) ≡ true
      picked true = picked_narrow unit op latency
      picked false = refl

      was : (b : Bool) → narrow m (if b then was_from m leaves unit op (delay + 1) else never) ≡ true
      was true = was_narrow unit op (delay + 1)
      was false = refl

  came_narrow : (unit : ℕ) → narrow m (coming_next m leaves unit) ≡ true
  came_narrow unit = by (nat_lt 1 (longest m unit)) where
    by : (b : Bool) → narrow m (if b then fresh m unit 2 (first_of (shown m leaves unit) (Signal (Due unit 1))) else nothing) ≡ true
    by true =
        fresh_narrow u m rules over unit 2 (first_of (shown m leaves unit) (Signal (Due unit 1)))
        (first_narrow m (λ (o : ℕ × UnitOp). Signal (Boxes (IsFrom unit o.0 1))) (λ o. Signal (Boxes (Shows unit o.0)))
        (left_ops m leaves unit) (Signal (Due unit 1)) (all_each _ (left_ops m leaves unit) (λ o. (refl, refl))) refl)
    by false = refl

  -- what registers become where operations are left to modules
  pub boxed_narrow : (r : Register Named Store) → narrow m r.next ≡ true → narrow m (boxed_register m leaves r).next ≡ true
  boxed_narrow r is = by r.name where
    by : (n : Named) → narrow m (boxed_register m leaves (record r { name = n })).next ≡ true
    by (Keeps (KeptPort unit)) =
        three m (begins m unit 1) (made m unit 1) (Select (is_coming m unit 1) (coming_next m leaves unit) (Signal (Port unit)))
        (begins_narrow u m rules over unit 1) (made_narrow u m rules over unit 1)
        (three m (is_coming m unit 1) (coming_next m leaves unit) (Signal (Port unit)) (is_coming_narrow u m rules over unit 1)
        (came_narrow unit) refl)
    by (Due unit delay) =
        three m (begins m unit (delay + 1)) (kept_made m leaves unit (delay + 1)) (coming m unit (delay + 1))
        (begins_narrow u m rules over unit (delay + 1)) (kept_narrow unit (delay + 1)) (coming_narrow u m rules over unit (delay + 1))
    by n = is
