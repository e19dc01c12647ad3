use Rattle.std.proofs.Common.{length}
use Rattle.tta_cost.proofs.fields.+long_from.Given as goal

-- the rest of the list is shorter
abbrev pub decreases-long_from : goal.decreases-long_from
decreases-long_from l = length l.templates.now
