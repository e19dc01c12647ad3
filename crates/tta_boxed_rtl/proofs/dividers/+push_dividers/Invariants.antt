use Rattle.std.proofs.Common.{length}
use Rattle.tta_boxed_rtl.proofs.dividers.+push_dividers.Given as goal

-- the rest of the list is shorter
abbrev pub decreases-push_dividers : goal.decreases-push_dividers
decreases-push_dividers g l = length l.left.now
