use Rattle.std.proofs.Common.{length}
use Rattle.tta_boxed_rtl.proofs.picks.+push_was_from.Given as goal

-- the rest of the list is shorter
abbrev pub decreases-push_was_from : goal.decreases-push_was_from
decreases-push_was_from l = length l.ops.now
