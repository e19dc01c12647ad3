use Rattle.std.proofs.Common.{◌≡◌, ◌+◌, ◌++◌, drop}
use Rattle.std.specs.List.{flat_map, enumerate_from}
use Rattle.tta_draw.specs.Cited.{stated}
use Rattle.tta_draw.specs.MachinePicture.{op_line_text, ops_text}
use Rattle.tta_draw.proofs.parts.push_ops.Given as goal

abbrev pub invariant-loop-op : goal.invariant-loop-op
invariant-loop-op g l =
    let U = stated (λ v. (goal.OpUnit-dyn g v).unit_meaning v.1) l.units in
    l.out.items ++ flat_map (λ o. op_line_text U l.m l.left (o.0 + 1) o.1) (enumerate_from l.op (drop l.op l.ops)) ≡ l.initial.out.items ++ ops_text U l.m l.left l.ops
