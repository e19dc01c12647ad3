use Rattle.std.proofs.Common.{length}
use Rattle.tta_rtl.proofs.reach.+dest_code.Given as goal

-- the rest of the list is shorter
abbrev pub decreases-dest_code : goal.decreases-dest_code
decreases-dest_code l = length l.dests.now
