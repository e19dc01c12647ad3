use Rattle.std.proofs.Common.{length}
use Rattle.tta_trap_rtl.proofs.fault.+push_finding_from.Given as goal

-- the rest of the list is shorter
abbrev pub decreases-push_finding_from : goal.decreases-push_finding_from
decreases-push_finding_from l = length l.units.now
