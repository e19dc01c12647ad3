use Rattle.std.proofs.Common.{length}
use Rattle.tta_rtl.proofs.functions.+is_offered.Given as goal

-- the rest of the list is shorter
abbrev pub decreases-is_offered : goal.decreases-is_offered
decreases-is_offered l = length l.all.now
