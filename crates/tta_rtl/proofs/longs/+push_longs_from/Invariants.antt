use Rattle.std.proofs.Common.{length}
use Rattle.tta_rtl.proofs.longs.+push_longs_from.Given as goal

-- the rest of the list is shorter
abbrev pub decreases-push_longs_from : goal.decreases-push_longs_from
decreases-push_longs_from l = length l.templates.now
