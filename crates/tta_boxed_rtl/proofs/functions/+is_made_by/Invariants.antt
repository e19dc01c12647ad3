use Rattle.std.proofs.Common.{length}
use Rattle.tta_boxed_rtl.proofs.functions.+is_made_by.Given as goal

-- the rest of the list is shorter
abbrev pub decreases-is_made_by : goal.decreases-is_made_by
decreases-is_made_by l = length l.all.now
