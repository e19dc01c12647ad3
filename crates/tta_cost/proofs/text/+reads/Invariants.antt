use Rattle.std.proofs.Common.{length}
use Rattle.tta_cost.proofs.text.+reads.Given as goal

-- the rest of the list is shorter
abbrev pub decreases-reads : goal.decreases-reads
decreases-reads l = length l.files.now
