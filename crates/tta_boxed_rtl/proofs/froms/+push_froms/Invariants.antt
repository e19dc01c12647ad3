use Rattle.std.proofs.Common.{length}
use Rattle.tta_boxed_rtl.proofs.froms.+push_froms.Given as goal

-- the rest of the list is shorter
abbrev pub decreases-push_froms : goal.decreases-push_froms
decreases-push_froms l = length l.left.now
