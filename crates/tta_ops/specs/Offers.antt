-- What units offer: their operations, walked unit by unit and then by index.
use Rattle.std.specs.Prelude.{ℕ, ◌+◌, List, [], ◌∷◌, ◌++◌, ◌≡◌, map}
use Rattle.std.specs.List.{range_with_len}
use Rattle.tta_ops.specs.Row.{Row, names_of, arities_of, place_of}
use Rattle.tta_ops.specs.Stated.{value_at}
use Rattle.tta_ops.specs.Units.{Units}

module _ {B : Type 0} (name : B → ℕ → List ℕ) (arity : B → ℕ → ℕ) where
  -- the operation with this index of a unit, which has a number among the units
  abbrev pub row_of : ℕ → B → ℕ → Row
  row_of number unit index = record {
    name = name unit index;
    place = record { arity = arity unit index; unit = number; index = index };
  }

module _ {B : Type 0} (size : B → ℕ) (name : B → ℕ → List ℕ) (arity : B → ℕ → ℕ) where
  -- the operations of one unit
  abbrev pub unit_rows : ℕ → B → List Row
  unit_rows number unit = map (row_of name arity number unit) (range_with_len 0 (size unit))

  -- the operations of all units, the first of which has this number
  abbrev pub rows_from : ℕ → List B → List Row
  rows_from number [] = []
  rows_from number (unit ∷ units) = unit_rows number unit ++ rows_from (number + 1) units

-- U states exactly the operations that these units offer: their names, arities and values
pub record IsOffered {B : Type 0} (size : B → ℕ) (name : B → ℕ → List ℕ) (arity : B → ℕ → ℕ)
    (meaning : B → ℕ → ℕ → ℕ → ℕ) (units : List B) (U : Units) : Type 0 where
  pub names : U.names ≡ names_of (rows_from size name arity 0 units)
  pub arities : U.arities ≡ arities_of (rows_from size name arity 0 units)
  pub value : (op a b : ℕ)
      → U.value op a b ≡ value_at meaning units (place_of (rows_from size name arity 0 units) op) a b
