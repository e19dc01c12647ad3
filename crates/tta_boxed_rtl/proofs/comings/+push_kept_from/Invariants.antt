use Rattle.std.proofs.Common.{length}
use Rattle.tta_boxed_rtl.proofs.comings.+push_kept_from.Given as goal

-- the rest of the list is shorter
abbrev pub decreases-push_kept_from : goal.decreases-push_kept_from
decreases-push_kept_from l = length l.ops.now
