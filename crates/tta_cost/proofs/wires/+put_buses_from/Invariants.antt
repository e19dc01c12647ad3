use Rattle.std.proofs.Common.{length}
use Rattle.tta_cost.proofs.wires.+put_buses_from.Given as goal

-- the rest of the list is shorter
abbrev pub decreases-put_buses_from : goal.decreases-put_buses_from
decreases-put_buses_from l = length l.buses.now
