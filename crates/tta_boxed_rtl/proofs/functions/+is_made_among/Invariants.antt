use Rattle.std.proofs.Common.{length}
use Rattle.tta_boxed_rtl.proofs.functions.+is_made_among.Given as goal

-- the rest of the list is shorter
abbrev pub decreases-is_made_among : goal.decreases-is_made_among
decreases-is_made_among l = length l.ops.now
