use Rattle.std.proofs.Common.{length}
use Rattle.tta_rtl.proofs.registers.+push_brought_from.Given as goal

-- the rest of the list is shorter
abbrev pub decreases-push_brought_from : goal.decreases-push_brought_from
decreases-push_brought_from l = length l.buses.now
