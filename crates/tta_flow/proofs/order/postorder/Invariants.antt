use Rattle.std.proofs.Common.{length}
use Rattle.tta_flow.specs.Order.{IsWalk}
use Rattle.tta_flow.proofs.order.postorder.Given as goal

abbrev pub invariant-loop-root : goal.invariant-loop-root
invariant-loop-root l = IsWalk (length l.steps) l.walk
