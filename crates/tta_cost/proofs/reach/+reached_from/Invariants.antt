use Rattle.std.proofs.Common.{length}
use Rattle.tta_cost.proofs.reach.+reached_from.Given as goal

-- the rest of the list is shorter
abbrev pub decreases-reached_from : goal.decreases-reached_from
decreases-reached_from l = length l.buses.now
