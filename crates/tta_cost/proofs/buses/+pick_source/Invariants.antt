use Rattle.std.proofs.Common.{length}
use Rattle.tta_cost.proofs.buses.+pick_source.Given as goal

-- the rest of the list is shorter
abbrev pub decreases-pick_source : goal.decreases-pick_source
decreases-pick_source l = length l.sources.now
