use Rattle.tta_reorder.specs.Orders.{AreInPlace}
use Rattle.tta_reorder.proofs.agree.count_up.Given as goal

abbrev pub invariant-loop-k : goal.invariant-loop-k
invariant-loop-k l = AreInPlace l.k l.numbers
