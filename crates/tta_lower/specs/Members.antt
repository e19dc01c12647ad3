-- Members of a list.
use Rattle.std.specs.Prelude.{◌≡◌, ◌⊎◌, ◌<◌, ℕ, List, [], ◌∷◌, ⊤}

-- a value is one of some
abbrev pub In : {A : Type 0} → A → List A → Type 0
In x [] = ⊥
In x (y ∷ ys) = (x ≡ y) ⊎ In x ys

-- each number is below all those after it
abbrev pub Rises : List ℕ → Type 0
Rises [] = ⊤
Rises (k ∷ ks) = ((j : ℕ) → In j ks → k < j) × Rises ks
