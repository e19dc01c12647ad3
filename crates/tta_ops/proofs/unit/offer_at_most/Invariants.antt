use Rattle.std.proofs.Common.{◌≡◌, ◌+◌, drop}
use Rattle.std.specs.List.{sum_by}
use Rattle.tta_ops.proofs.unit.offer_at_most.Given as goal

abbrev pub invariant-loop-unit : goal.invariant-loop-unit
invariant-loop-unit g l =
    let size = g.U.OpUnit.unit_size in
    sum_by size (drop l.unit-index l.units) + l.most ≡ sum_by size l.units + l.left
