use Rattle.std.proofs.Common.{length}
use Rattle.tta_trap_rtl.proofs.watching.+push_imms_from.Given as goal

-- the rest of the list is shorter
abbrev pub decreases-push_imms_from : goal.decreases-push_imms_from
decreases-push_imms_from l = length l.imms.now
