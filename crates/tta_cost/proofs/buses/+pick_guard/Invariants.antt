use Rattle.std.proofs.Common.{length}
use Rattle.tta_cost.proofs.buses.+pick_guard.Given as goal

-- the rest of the list is shorter
abbrev pub decreases-pick_guard : goal.decreases-pick_guard
decreases-pick_guard l = length l.guards.now
