use Rattle.std.proofs.Common.{length}
use Rattle.tta_trap_rtl.proofs.becoming.+push_long_from.Given as goal

-- the rest of the list is shorter
abbrev pub decreases-push_long_from : goal.decreases-push_long_from
decreases-push_long_from l = length l.templates.now
