-- A cell of 0 behind the variables of a procedure.
use Rattle.std.specs.Prelude.{◌≡◌, ℕ, List, [], ◌∷◌, ◌++◌, take}

-- these words are so many variables, and a 0 behind them
abbrev pub IsBehind : (size : ℕ) → (words : List ℕ) → Type 0
IsBehind size words = words ≡ take size words ++ 0 ∷ []
