-- What the lines are made of.
use Rattle.std.specs.Prelude.{ℕ, Bool, if◌then◌else◌, List, [], ◌++◌, codes, decimal}

-- a number, and what it counts before it
unfoldable pub count_text : (what : List ℕ) → ℕ → List ℕ
count_text what n = what ++ decimal n

-- a name and a port of it, where something holds
abbrev pub named_if : Bool → (name port : List ℕ) → List ℕ
named_if test name port = if test then codes " " ++ (name ++ port) else []

-- how a line of a part begins: what it is, its name, and what is told
unfoldable pub start_text : (what name told : List ℕ) → List ℕ
start_text what name told = what ++ (name ++ told)
