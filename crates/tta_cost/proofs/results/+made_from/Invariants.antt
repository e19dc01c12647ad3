use Rattle.std.proofs.Common.{length}
use Rattle.tta_cost.proofs.results.+made_from.Given as goal

-- the rest of the list is shorter
abbrev pub decreases-made_from : goal.decreases-made_from
decreases-made_from l = length l.ops.now
