use Rattle.std.proofs.Common.{◌≤◌}
use Rattle.tta_loadelim.proofs.reloading.frame_uses.Given as goal

abbrev pub invariant-loop-x : goal.invariant-loop-x
invariant-loop-x l = l.count ≤ l.x-index
