use Rattle.std.proofs.Common.{length}
use Rattle.tta_rtl.proofs.reach.+push_reached_from.Given as goal

-- the rest of the list is shorter
abbrev pub decreases-push_reached_from : goal.decreases-push_reached_from
decreases-push_reached_from l = length l.buses.now
