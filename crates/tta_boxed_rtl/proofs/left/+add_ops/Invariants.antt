use Rattle.std.proofs.Common.{length}
use Rattle.tta_boxed_rtl.proofs.left.+add_ops.Given as goal

-- the rest of the list is shorter
abbrev pub decreases-add_ops : goal.decreases-add_ops
decreases-add_ops l = length l.ops.now
