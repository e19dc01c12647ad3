-- One interval takes its home register in turn.
use Rattle.std.specs.Prelude.{◌≡◌, ℕ, ◌+◌, ◌<◌, ◌≤◌, List, Some, length, slice_get, slice_set}
use Rattle.tta_alloc.specs.declared.interval.Interval.{Interval}
use Rattle.tta_alloc.specs.declared.home.Home.TheVariants.{Reg}
use Rattle.tta_alloc.specs.declared.turns.Turns.{Turns}

-- the place of the least of some numbers, ties to the least place
pub record IsLeast (from : List ℕ) (place : ℕ) : Type 0 where
  pub there : place < length from
  pub lesser : (j v w : ℕ) → j < place → slice_get from place ≡ Some v → slice_get from j ≡ Some w → v < w
  pub greater : (j v w : ℕ) → place ≤ j → slice_get from place ≡ Some v → slice_get from j ≡ Some w → v ≤ w

-- an interval takes the home register that is free from the least position on, which then is free from past its end on
pub record Takes (new : Interval) (old now : Turns) : Type 0 where
  pub place : ℕ
  pub least : IsLeast old.from.items place
  pub from : now.from.items ≡ slice_set old.from.items place (new.end + 1)
  pub homes : now.homes.items ≡ slice_set old.homes.items new.var (Reg place)
