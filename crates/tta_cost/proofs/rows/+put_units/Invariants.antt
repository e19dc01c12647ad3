use Rattle.std.proofs.Common.{length}
use Rattle.tta_cost.proofs.rows.+put_units.Given as goal

-- the rest of the list is shorter
abbrev pub decreases-put_units : goal.decreases-put_units
decreases-put_units l = length l.units.now
