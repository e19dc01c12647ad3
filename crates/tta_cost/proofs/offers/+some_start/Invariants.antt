use Rattle.std.proofs.Common.{length}
use Rattle.tta_cost.proofs.offers.+some_start.Given as goal

-- the rest of the list is shorter
abbrev pub decreases-some_start : goal.decreases-some_start
decreases-some_start l = length l.ops.now
