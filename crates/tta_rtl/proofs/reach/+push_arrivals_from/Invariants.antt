use Rattle.std.proofs.Common.{length}
use Rattle.tta_rtl.proofs.reach.+push_arrivals_from.Given as goal

-- the rest of the list is shorter
abbrev pub decreases-push_arrivals_from : goal.decreases-push_arrivals_from
decreases-push_arrivals_from l = length l.buses.now
