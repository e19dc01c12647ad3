use Rattle.std.proofs.Common.{length}
use Rattle.tta_rtl.proofs.results.+push_made_from.Given as goal

-- the rest of the list is shorter
abbrev pub decreases-push_made_from : goal.decreases-push_made_from
decreases-push_made_from l = length l.ops.now
