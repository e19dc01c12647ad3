use Rattle.std.proofs.Common.{length}
use Rattle.tta_flow.specs.Order.{IsWalk, ahead}
use Rattle.tta_flow.proofs.order.Walk.walk_from.Given as goal

abbrev pub invariant-loop-at : goal.invariant-loop-at
invariant-loop-at l = IsWalk (length l.steps) l.self

abbrev pub decreases-loop-at : goal.decreases-loop-at
decreases-loop-at l = ahead (length l.steps) l.self
