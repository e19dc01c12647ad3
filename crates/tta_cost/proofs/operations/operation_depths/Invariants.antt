use Rattle.std.proofs.Common.{◌≡◌, [], map, slice_index_or}
use Rattle.tta_cost.specs.Cited.{stated, numbers}
use Rattle.tta_cost.specs.Operations.{operation_depth}
use Rattle.tta_cost.proofs.operations.operation_depths.Given as goal

-- the depths so far
abbrev pub invariant-loop-op : goal.invariant-loop-op
invariant-loop-op g l =
    l.depths.items
    ≡ map (λ op. operation_depth (slice_index_or (stated (λ v. (goal.OpUnit-dyn g v).unit_meaning v.1) l.units).names op [])) (numbers l.op)
