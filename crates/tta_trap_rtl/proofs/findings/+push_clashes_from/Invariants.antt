use Rattle.std.proofs.Common.{length}
use Rattle.tta_trap_rtl.proofs.findings.+push_clashes_from.Given as goal

-- the rest of the list is shorter
abbrev pub decreases-push_clashes_from : goal.decreases-push_clashes_from
decreases-push_clashes_from l = length l.ops.now
