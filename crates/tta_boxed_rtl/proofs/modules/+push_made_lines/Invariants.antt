use Rattle.std.proofs.Common.{length}
use Rattle.tta_boxed_rtl.proofs.modules.+push_made_lines.Given as goal

-- the rest of the list is shorter
abbrev pub decreases-push_made_lines : goal.decreases-push_made_lines
decreases-push_made_lines l = length l.left.now
