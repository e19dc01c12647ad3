use Rattle.tta_alloc.proofs.LeastLemmas.{IsLeastTo}
use Rattle.tta_alloc.proofs.turns.least_place.Given as goal

abbrev pub invariant-loop-place : goal.invariant-loop-place
invariant-loop-place l = IsLeastTo l.from l.place l.best
