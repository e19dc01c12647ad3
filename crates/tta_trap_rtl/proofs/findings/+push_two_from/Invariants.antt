use Rattle.std.proofs.Common.{length}
use Rattle.tta_trap_rtl.proofs.findings.+push_two_from.Given as goal

-- the rest of the list is shorter
abbrev pub decreases-push_two_from : goal.decreases-push_two_from
decreases-push_two_from l = length l.ops.now
