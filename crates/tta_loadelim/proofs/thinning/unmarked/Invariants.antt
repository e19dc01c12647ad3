use Rattle.tta_loadelim.proofs.ThinWalk.{ThinnedTo}
use Rattle.tta_loadelim.proofs.thinning.unmarked.Given as goal

abbrev pub invariant-loop-i : goal.invariant-loop-i
invariant-loop-i l = ThinnedTo l.m l.items l.last l.pending.items l.out.items l.i
