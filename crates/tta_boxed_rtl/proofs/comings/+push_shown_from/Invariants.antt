use Rattle.std.proofs.Common.{length}
use Rattle.tta_boxed_rtl.proofs.comings.+push_shown_from.Given as goal

-- the rest of the list is shorter
abbrev pub decreases-push_shown_from : goal.decreases-push_shown_from
decreases-push_shown_from l = length l.ops.now
