use Rattle.std.proofs.Common.{length}
use Rattle.tta_rtl.proofs.buses.+push_buses_from.Given as goal

-- the rest of the list is shorter
abbrev pub decreases-push_buses_from : goal.decreases-push_buses_from
decreases-push_buses_from l = length l.buses.now
