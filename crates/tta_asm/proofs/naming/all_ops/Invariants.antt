use Rattle.std.proofs.Common.{◌≡◌, ◌<◌, ℕ, List, length}
use Rattle.tta_asm.specs.Cited.{stated}
use Rattle.tta_asm.specs.Table.{named_at, op_named}
use Rattle.tta_asm.proofs.naming.all_ops.Given as goal

abbrev pub invariant-loop-unit : goal.invariant-loop-unit
invariant-loop-unit g l =
    let U = stated (λ v. (goal.OpUnit-dyn g v).unit_meaning v.1) l.units in
    record {
      count : length l.all ≡ l.unit-index;
      ops : (unit : ℕ) (name : List ℕ) → unit < l.unit-index → named_at l.all unit name ≡ op_named U l.m unit name;
    }
