use Rattle.std.proofs.Common.{◌≤◌, length}
use Rattle.tta_loadelim.proofs.upcoming.next_loads.Given as goal

abbrev pub invariant-loop-i : goal.invariant-loop-i
invariant-loop-i l = l.i ≤ length l.accesses

abbrev pub decreases-loop-i : goal.decreases-loop-i
decreases-loop-i l = l.i
