use Rattle.std.proofs.Common.{length}
use Rattle.tta_rtl.proofs.ports.+push_ports_from.Given as goal

-- the rest of the list is shorter
abbrev pub decreases-push_ports_from : goal.decreases-push_ports_from
decreases-push_ports_from l = length l.units.now
