use Rattle.std.proofs.Common.{◌<◌, ◌≤◌}
use Rattle.tta_alloc.proofs.WalkLemmas.{IsWalk}
use Rattle.tta_alloc.proofs.walks.firsts.Given as goal

abbrev pub invariant-loop-place : goal.invariant-loop-place
invariant-loop-place l = IsWalk l.body (λ k. k < l.place) (λ p k. p ≤ k) l.places l.row
