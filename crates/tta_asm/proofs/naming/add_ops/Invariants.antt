use Rattle.std.proofs.Common.{map, drop, ◌++◌}
use Rattle.tta_asm.specs.Cited.{UnitOp, stated}
use Rattle.tta_asm.specs.Parts.{by_place, op_name}
use Rattle.tta_asm.specs.Table.{NameTheSame}
use Rattle.tta_asm.proofs.naming.add_ops.Given as goal

abbrev pub invariant-loop-place : goal.invariant-loop-place
invariant-loop-place g l =
    let U = stated (λ v. (goal.OpUnit-dyn g v).unit_meaning v.1) l.units in
    record {
      same : NameTheSame (l.names ++ by_place (λ k. k) l.place (map (λ (o : UnitOp). op_name U o.op) (drop l.place l.unit.ops)))
          (l.initial.names ++ by_place (λ k. k) 0 (map (λ (o : UnitOp). op_name U o.op) l.unit.ops));
    }
