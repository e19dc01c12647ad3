use Rattle.std.proofs.Common.{length}
use Rattle.tta_cost.proofs.wires.+put_fields_from.Given as goal

-- the rest of the list is shorter
abbrev pub decreases-put_fields_from : goal.decreases-put_fields_from
decreases-put_fields_from l = length l.buses.now
