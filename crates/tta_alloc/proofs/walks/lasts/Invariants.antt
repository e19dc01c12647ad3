use Rattle.std.proofs.Common.{◌≤◌, ◌+◌, length}
use Rattle.tta_alloc.proofs.WalkLemmas.{IsWalk}
use Rattle.tta_alloc.proofs.walks.lasts.Given as goal

abbrev pub invariant-loop-place : goal.invariant-loop-place
invariant-loop-place l = record {
  within : l.place ≤ length l.body.q.now.steps + 1;
  walk : IsWalk l.body (λ k. l.place ≤ k) (λ p k. k ≤ p) l.places l.row;
}

abbrev pub decreases-loop-place : goal.decreases-loop-place
decreases-loop-place l = l.place
