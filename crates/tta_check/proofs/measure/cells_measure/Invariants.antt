-- The measure so far.
use Rattle.std.proofs.Common.{◌≡◌, ℕ, ◌+◌, ◌*◌, ◌≤◌, drop}
use Rattle.tta_check.specs.Measures.{cells_measure}
use Rattle.tta_check.proofs.measure.cells_measure.Given as goal

pub record Far (sum all rest index : ℕ) : Type 0 where
  pub value : all ≡ sum + rest
  pub most : sum ≤ 3 * index

abbrev pub invariant-loop-kept : goal.invariant-loop-kept
invariant-loop-kept l = Far l.sum (cells_measure l.cells) (cells_measure (drop l.kept-index l.cells)) l.kept-index
