-- How a page stays small: texts for which there is room, in bytes.
use Rattle.std.specs.Prelude.{◌≡◌, ℕ, ◌-◌, true, false, nat_lt, if◌then◌else◌, List, [], ◌∷◌, ◌++◌, length, Option, Some, None}

-- a text, or nothing where there is no room for it
abbrev pub within : (room : ℕ) → List ℕ → List ℕ
within room text = if nat_lt room (length text) then [] else text

-- texts one after another, up to the first for which there is no room
abbrev pub fitting : (room : ℕ) → List (List ℕ) → List ℕ
fitting room [] = []
fitting room (t ∷ ts) = if nat_lt room (length t) then [] else t ++ fitting (room - length t) ts

-- A text was put after others. There was room for it, and so much is left; or there was none, and it was taken away again.
abbrev pub Fits : (room : ℕ) → (before text now : List ℕ) → (left : Option ℕ) → Type 0
Fits room before text now None = (nat_lt room (length text) ≡ true) × (now ≡ before)
Fits room before text now (Some left) =
    (nat_lt room (length text) ≡ false) × (now ≡ before ++ text) × (left ≡ room - length text)
