use Rattle.tta_alloc.proofs.EachInterval.{AreEach}
use Rattle.tta_alloc.proofs.intervals.Intervals.of.Given as goal

abbrev pub invariant-loop-owner : goal.invariant-loop-owner
invariant-loop-owner l = AreEach l.p l.owner l.all.items
