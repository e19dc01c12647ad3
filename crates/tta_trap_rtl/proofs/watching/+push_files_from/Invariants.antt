use Rattle.std.proofs.Common.{length}
use Rattle.tta_trap_rtl.proofs.watching.+push_files_from.Given as goal

-- the rest of the list is shorter
abbrev pub decreases-push_files_from : goal.decreases-push_files_from
decreases-push_files_from l = length l.files.now
