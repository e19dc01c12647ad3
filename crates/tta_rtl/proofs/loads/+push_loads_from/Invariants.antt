use Rattle.std.proofs.Common.{length}
use Rattle.tta_rtl.proofs.loads.+push_loads_from.Given as goal

-- the rest of the list is shorter
abbrev pub decreases-push_loads_from : goal.decreases-push_loads_from
decreases-push_loads_from l = length l.ops.now
