-- What a circuit that leaves operations to modules knows of a result that is due.
use Rattle.std.proofs.Common.{◌≡◌, ℕ, ◌-◌, ◌<◌, Bool, true, false, List, Some, slice_get}
use Rattle.tta_boxed.specs.Cited.{Units, Machine, UnitOp, Set, op_at, is_set, IsDue, Due, IsFrom, Boxes, longest}
use Rattle.tta_hardware.specs.Signals.{Signal as Named}
use Rattle.tta_boxed.specs.Boxed.{is_left}

module _ (u : Units) (m : Machine) (leaves : ℕ → Bool) (a b : Named → ℕ) (history : (unit : ℕ) → UnitOp → List (ℕ × ℕ)) where
  -- Where it is an operation's that is left to a module, the module was given its words so many enabled clocks before that it shows it when
  -- it is due. Where it is of none, both circuits keep the same word.
  pub record DueAt (unit delay : ℕ) : Type 0 where
    pub picked : (op id : ℕ) (o : UnitOp) → op_at m unit op ≡ Some o → is_left m leaves o ≡ true → o.op ≡ Set (record { 0 = id })
        → delay < o.latency → is_set (a (Boxes (IsFrom unit op delay))) ≡ true
        → (x : ℕ × ℕ) × ((slice_get (history unit o) (o.latency - 1 - delay) ≡ Some x) × (b (Due unit delay) ≡ u.value id x.0 x.1))
    pub other : ((op : ℕ) (o : UnitOp) → op_at m unit op ≡ Some o → is_left m leaves o ≡ true → delay < o.latency
        → is_set (a (Boxes (IsFrom unit op delay))) ≡ false) → b (Due unit delay) ≡ a (Due unit delay)

  -- so it is with all that is due
  abbrev pub AreDue : Type 0
  AreDue = (unit delay : ℕ) → 0 < delay → delay < longest m unit → is_set (a (IsDue unit delay)) ≡ true → DueAt unit delay
