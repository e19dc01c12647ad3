use Rattle.std.proofs.Common.{length}
use Rattle.tta_rtl.proofs.functions.+is_among.Given as goal

-- the rest of the list is shorter
abbrev pub decreases-is_among : goal.decreases-is_among
decreases-is_among l = length l.ops.now
