use Rattle.std.proofs.Common.{length}
use Rattle.tta_trap_rtl.proofs.findings.+push_findings_from.Given as goal

-- the rest of the list is shorter
abbrev pub decreases-push_findings_from : goal.decreases-push_findings_from
decreases-push_findings_from l = length l.units.now
