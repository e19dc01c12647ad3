use Rattle.std.proofs.Common.{◌≡◌, ℕ, ◌<◌, true, nat_le, get_or}
use Rattle.std.specs.List.{list_all}
use Rattle.tta_tac.specs.Cited.{Proc}
use Rattle.tta_tac.specs.Cycles.{passes}
use Rattle.tta_tac.proofs.order.are_level.Given as goal

abbrev pub invariant-loop-place : goal.invariant-loop-place
invariant-loop-place l =
    (i : ℕ) (q : Proc) → i < l.place → q ≡ get_or l.procs i q → list_all (passes (λ n. nat_le n (get_or l.numbers i 0)) l.numbers) q.steps ≡ true
