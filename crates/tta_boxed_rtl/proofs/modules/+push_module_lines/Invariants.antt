use Rattle.std.proofs.Common.{length}
use Rattle.tta_boxed_rtl.proofs.modules.+push_module_lines.Given as goal

-- the rest of the list is shorter
abbrev pub decreases-push_module_lines : goal.decreases-push_module_lines
decreases-push_module_lines g l = length l.left.now
