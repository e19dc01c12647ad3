use Rattle.std.proofs.Common.{length}
use Rattle.tta_cost.proofs.reach.+arrivals_from.Given as goal

-- the rest of the list is shorter
abbrev pub decreases-arrivals_from : goal.decreases-arrivals_from
decreases-arrivals_from l = length l.buses.now
