use Rattle.std.proofs.Common.{length}
use Rattle.tta_trap_rtl.proofs.lacks.+push_lacks_from.Given as goal

-- the rest of the list is shorter
abbrev pub decreases-push_lacks_from : goal.decreases-push_lacks_from
decreases-push_lacks_from l = length l.buses.now
