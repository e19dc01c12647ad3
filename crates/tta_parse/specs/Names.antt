-- Names that were declared, each with what it names.
use Rattle.std.specs.Prelude.{ℕ, if◌then◌else◌, List, [], ◌∷◌, Option, Some, None}
use Rattle.std.specs.Str.{bytes_eq}

-- the names in the order of their declarations
abbrev pub Declared : Type 0 → Type 0
Declared P = List (List ℕ × P)

-- what a name names, if it was declared
abbrev pub named_in : {P : Type 0} → Declared P → List ℕ → Option P
named_in [] name = None
named_in (d ∷ ds) name = if bytes_eq d.0 name then Some d.1 else named_in ds name
