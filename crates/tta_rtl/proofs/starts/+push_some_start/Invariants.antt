use Rattle.std.proofs.Common.{length}
use Rattle.tta_rtl.proofs.starts.+push_some_start.Given as goal

-- the rest of the list is shorter
abbrev pub decreases-push_some_start : goal.decreases-push_some_start
decreases-push_some_start l = length l.ops.now
