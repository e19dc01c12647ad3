-- The least of some numbers, as they are walked through.
use Rattle.std.proofs.Common.{◌≡◌, ℕ, ◌<◌, ◌≤◌, List, length, Some}
use Rattle.std.specs.Prelude.{slice_get}

-- the least of the numbers before a place, the first of them
pub record IsLeastTo (from : List ℕ) (n best : ℕ) : Type 0 where
  pub there : best < length from
  pub before : best < n
  pub lesser : (j v w : ℕ) → j < best → slice_get from best ≡ Some v → slice_get from j ≡ Some w → v < w
  pub greater : (j v w : ℕ) → best ≤ j → j < n → slice_get from best ≡ Some v → slice_get from j ≡ Some w → v ≤ w
