use Rattle.std.proofs.Common.{length}
use Rattle.tta_cost.proofs.text.+writes.Given as goal

-- the rest of the list is shorter
abbrev pub decreases-writes : goal.decreases-writes
decreases-writes l = length l.files.now
