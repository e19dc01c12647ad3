use Rattle.std.proofs.Common.{length}
use Rattle.tta_rtl.proofs.results.+push_fresh_from.Given as goal

-- the rest of the list is shorter
abbrev pub decreases-push_fresh_from : goal.decreases-push_fresh_from
decreases-push_fresh_from l = length l.ops.now
