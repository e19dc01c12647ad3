use Rattle.std.proofs.Common.{length}
use Rattle.tta_cost.proofs.loads.+put_loads.Given as goal

-- the rest of the list is shorter
abbrev pub decreases-put_loads : goal.decreases-put_loads
decreases-put_loads l = length l.ops.now
