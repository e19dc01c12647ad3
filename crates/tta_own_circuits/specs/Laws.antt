-- What stands in the place of the lines of a text.
use Rattle.std.specs.Prelude.{◌≡◌, ◌<◌, ℕ, ◌==◌, true, not, List, [], ◌∷◌, ◌++◌, Option, Some, None}
use Rattle.std.specs.List.{list_all}
use Rattle.tta_own_circuits.specs.Cited.{AreDifferent, Worked, called_text, function_head, own_text}
use Rattle.tta_own_circuits.specs.Texts.{function_of}
use Rattle.tta_own_circuits.specs.Included.{function_at, with_functions}

-- a text has no end of a line
abbrev pub IsOneLine : List ℕ → Type 0
IsOneLine text = list_all (λ c. not (c == 10)) text ≡ true

module _ (size : ℕ) (called : ℕ → List ℕ) (circuit : ℕ → Option Worked) where
  -- Where `rtl` has the function of an operation of one's own, whose circuit its unit hands in, the function of that circuit stands in the
  -- place of the line that includes a file.
  abbrev pub OwnStand : Type 0
  OwnStand =
      (i op : ℕ) (w : Worked) (rest : List ℕ) → i < size → IsOneLine (called i) → circuit i ≡ Some w
      → with_functions called circuit size [] (own_text op (called i) ++ rest)
      ≡ function_of (called i) w ++ with_functions called circuit size [] (function_head op (called i) ++ (called_text op (called i) ++ rest))

  -- A line that includes no file of such an operation stays.
  abbrev pub OthersStay : Type 0
  OthersStay =
      (line rest : List ℕ) → IsOneLine line → function_at called circuit size line ≡ None
      → with_functions called circuit size [] (line ++ 10 ∷ rest) ≡ line ++ 10 ∷ with_functions called circuit size [] rest

-- Both hold of each unit.
abbrev pub FunctionsStand : Type 0
FunctionsStand =
    (size : ℕ) (called : ℕ → List ℕ) (circuit : ℕ → Option Worked) → AreDifferent size called
    → OwnStand size called circuit × OthersStay size called circuit
