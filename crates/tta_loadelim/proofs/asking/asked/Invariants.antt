use Rattle.std.proofs.Common.{◌≤◌, length}
use Rattle.tta_loadelim.proofs.asking.asked.Given as goal

abbrev pub invariant-loop-i : goal.invariant-loop-i
invariant-loop-i l = l.i ≤ length l.items

abbrev pub decreases-loop-i : goal.decreases-loop-i
decreases-loop-i l = l.i
