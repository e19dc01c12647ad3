use Rattle.std.proofs.Common.{length}
use Rattle.tta_offers.proofs.units.+longest_in.Given as goal

-- the rest of the list is shorter
abbrev pub decreases-longest_in : goal.decreases-longest_in
decreases-longest_in l = length l.ops.now
