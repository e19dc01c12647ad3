-- Lists that begin others.
use Rattle.std.specs.Prelude.{◌≡◌, ℕ, List, ◌++◌}

-- one list begins another
abbrev pub IsPrefixOf : List ℕ → List ℕ → Type 0
IsPrefixOf xs ys = (rest : List ℕ) × (ys ≡ xs ++ rest)
