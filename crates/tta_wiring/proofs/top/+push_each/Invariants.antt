use Rattle.std.proofs.Common.{length}
use Rattle.tta_wiring.proofs.top.+push_each.Given as goal

-- the rest of the list is shorter
abbrev pub decreases-push_each : goal.decreases-push_each
decreases-push_each l = length l.ends.now
