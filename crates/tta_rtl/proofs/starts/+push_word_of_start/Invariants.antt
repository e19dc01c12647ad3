use Rattle.std.proofs.Common.{length}
use Rattle.tta_rtl.proofs.starts.+push_word_of_start.Given as goal

-- the rest of the list is shorter
abbrev pub decreases-push_word_of_start : goal.decreases-push_word_of_start
decreases-push_word_of_start l = length l.ops.now
