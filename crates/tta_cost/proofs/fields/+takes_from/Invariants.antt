use Rattle.std.proofs.Common.{length}
use Rattle.tta_cost.proofs.fields.+takes_from.Given as goal

-- the rest of the list is shorter
abbrev pub decreases-takes_from : goal.decreases-takes_from
decreases-takes_from l = length l.templates.now
