use Rattle.std.proofs.Common.{length}
use Rattle.tta_trap_rtl.proofs.fault.+push_lacking_from.Given as goal

-- the rest of the list is shorter
abbrev pub decreases-push_lacking_from : goal.decreases-push_lacking_from
decreases-push_lacking_from l = length l.buses.now
