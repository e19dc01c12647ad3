use Rattle.std.proofs.Common.{length}
use Rattle.tta_rtl.proofs.templates.+push_takes_from.Given as goal

-- the rest of the list is shorter
abbrev pub decreases-push_takes_from : goal.decreases-push_takes_from
decreases-push_takes_from l = length l.templates.now
