use Rattle.std.proofs.Common.{length}
use Rattle.tta_trap_rtl.proofs.lacks.+pick_guard_lacks.Given as goal

-- the rest of the list is shorter
abbrev pub decreases-pick_guard_lacks : goal.decreases-pick_guard_lacks
decreases-pick_guard_lacks l = length l.guards.now
