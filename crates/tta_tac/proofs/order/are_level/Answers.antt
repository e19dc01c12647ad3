-- All procedures were looked at.
use Rattle.std.proofs.Common.{arith}
use Rattle.tta_tac.proofs.order.are_level.Goals as goal

pub returns-clause-level : goal.returns-clause-level
returns-clause-level c e = λ i q below at. c.loop-place.invariant i q (omega arith) at
