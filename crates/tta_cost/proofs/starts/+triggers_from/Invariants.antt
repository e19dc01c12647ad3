use Rattle.std.proofs.Common.{length}
use Rattle.tta_cost.proofs.starts.+triggers_from.Given as goal

-- the rest of the list is shorter
abbrev pub decreases-triggers_from : goal.decreases-triggers_from
decreases-triggers_from l = length l.ops.now
