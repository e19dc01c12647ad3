use Rattle.std.proofs.Common.{length}
use Rattle.tta_trap_rtl.proofs.reads.+pick_lacks.Given as goal

-- the rest of the list is shorter
abbrev pub decreases-pick_lacks : goal.decreases-pick_lacks
decreases-pick_lacks l = length l.sources.now
