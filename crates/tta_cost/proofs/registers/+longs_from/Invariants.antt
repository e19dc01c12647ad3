use Rattle.std.proofs.Common.{length}
use Rattle.tta_cost.proofs.registers.+longs_from.Given as goal

-- the rest of the list is shorter
abbrev pub decreases-longs_from : goal.decreases-longs_from
decreases-longs_from l = length l.templates.now
