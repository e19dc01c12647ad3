use Rattle.tta_alloc.proofs.EachInterval.{AreBelow}
use Rattle.tta_alloc.proofs.taken.each.Given as goal

abbrev pub invariant-loop-x : goal.invariant-loop-x
invariant-loop-x l = AreBelow l.body.q.now l.x l.all.items
