-- Words of units have 32 bits.
use Rattle.std.proofs.Common.{◌≡◌, ℕ, ◌+◌, Bool, true, false, List, [], ◌∷◌, map, refl}
use Rattle.std.specs.Prelude.{if◌then◌else◌, nat_lt}
use Rattle.tta_cost.specs.Cited.{Machine, UnitOp, Op, Signal, Starts, Due, HasBegun, first_of, nothing}
use Rattle.tta_arch.specs.declared.parts.Op.TheVariants.{Ldw, Stw, Ldf, Stf, Out, Take, Set}
use Rattle.tta_hardware.specs.Wires.{coming, fresh, loads, longest, made, read_word, result_of, timed}
use Rattle.tta_cost.specs.Chains.{bits_of}

-- the word that an operation shows
result_wide : (m : Machine) (unit : ℕ) (o : UnitOp) → bits_of m (result_of m unit o) ≡ 32
result_wide m unit o = by o.op refl where
  by : (op : Op) → o.op ≡ op → bits_of m (result_of m unit o) ≡ 32
  by Ldw is = rw is refl
  by Stw is = rw is refl
  by Ldf is = rw is refl
  by Stf is = rw is refl
  by Out is = rw is refl
  by Take is = rw is refl
  by (Set id) is = rw is refl

-- that of the operation that starts
pub made_wide : (m : Machine) (unit latency : ℕ) → bits_of m (made m unit latency) ≡ 32
made_wide m unit latency = by (timed m unit latency) where
  by : (xs : List (ℕ × UnitOp)) → bits_of m (first_of (map (λ (o : ℕ × UnitOp). (Signal (Starts unit o.0), result_of m unit o.1)) xs) nothing) ≡ 32
  by [] = refl
  by (o ∷ os) = result_wide m unit o.1

-- the word that is due
pub coming_wide : (m : Machine) (unit delay : ℕ) → bits_of m (coming m unit delay) ≡ 32
coming_wide m unit delay = by (nat_lt delay (longest m unit)) where
  over : (xs : List (ℕ × UnitOp))
      → bits_of m (first_of (map (λ (o : ℕ × UnitOp). (Signal (HasBegun unit o.0), read_word unit o.0)) xs) (Signal (Due unit delay))) ≡ 32
  over [] = refl
  over (o ∷ os) = refl

  by : (b : Bool) → bits_of m (if b then fresh m unit (delay + 1) (Signal (Due unit delay)) else nothing) ≡ 32
  by true = over (loads m unit (delay + 1))
  by false = refl
