use Rattle.std.proofs.Common.{length}
use Rattle.tta_cost.proofs.rows.+put_imms.Given as goal

-- the rest of the list is shorter
abbrev pub decreases-put_imms : goal.decreases-put_imms
decreases-put_imms l = length l.imms.now
