use Rattle.std.proofs.Common.{length}
use Rattle.tta_rtl.proofs.results.+push_begins_from.Given as goal

-- the rest of the list is shorter
abbrev pub decreases-push_begins_from : goal.decreases-push_begins_from
decreases-push_begins_from l = length l.ops.now
