-- The operations of some units, as a list of rows.
use Rattle.std.specs.Prelude.{ℕ, List, Option, map, option_map, slice_get}
use Rattle.tta_ops.specs.declared.place.Place.{Place}

-- an operation: what it is called, how many words it takes, and where it stands among the units
pub record Row : Type 0 where
  pub name : List ℕ
  pub place : Place

-- what the operations are called
abbrev pub names_of : List Row → List (List ℕ)
names_of rows = map (λ row. row.name) rows

-- how many words each takes
abbrev pub arities_of : List Row → List ℕ
arities_of rows = map (λ row. row.place.arity) rows

-- where the operation with this number stands, if there is one
abbrev pub place_of : List Row → ℕ → Option Place
place_of rows op = option_map (λ row. row.place) (slice_get rows op)
