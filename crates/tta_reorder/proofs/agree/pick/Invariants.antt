use Rattle.tta_reorder.proofs.Checked.{PickedTo}
use Rattle.tta_reorder.proofs.agree.pick.Given as goal

abbrev pub invariant-loop-n : goal.invariant-loop-n
invariant-loop-n l = PickedTo l.items l.numbers l.out.items l.n-index
