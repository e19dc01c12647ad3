use Rattle.std.proofs.Common.{◌≡◌, ℕ, ◌+◌, drop, length}
use Rattle.std.specs.List.{sum_by}
use Rattle.tta_build.specs.Cited.{Proc}
use Rattle.tta_build.proofs.placed_program.have_at_most.Given as goal

abbrev pub invariant-loop-q : goal.invariant-loop-q
invariant-loop-q l =
    let size : Proc → ℕ = λ q. length q.steps in
    sum_by size (drop l.q-index l.procs) + l.most ≡ sum_by size l.procs + l.left
