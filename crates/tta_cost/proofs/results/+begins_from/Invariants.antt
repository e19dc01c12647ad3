use Rattle.std.proofs.Common.{length}
use Rattle.tta_cost.proofs.results.+begins_from.Given as goal

-- the rest of the list is shorter
abbrev pub decreases-begins_from : goal.decreases-begins_from
decreases-begins_from l = length l.ops.now
