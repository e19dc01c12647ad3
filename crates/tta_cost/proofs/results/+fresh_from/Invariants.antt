use Rattle.std.proofs.Common.{length}
use Rattle.tta_cost.proofs.results.+fresh_from.Given as goal

-- the rest of the list is shorter
abbrev pub decreases-fresh_from : goal.decreases-fresh_from
decreases-fresh_from l = length l.ops.now
