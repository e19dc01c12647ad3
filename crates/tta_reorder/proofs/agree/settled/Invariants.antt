use Rattle.tta_reorder.proofs.Settled.{SettledTo}
use Rattle.tta_reorder.proofs.agree.settled.Given as goal

abbrev pub invariant-loop-n : goal.invariant-loop-n
invariant-loop-n l = SettledTo l.m l.items l.count l.n
