-- The laws of an operation unit.
use Rattle.std.specs.Prelude.{ℕ, ◌<◌, ◌≡◌, List}

-- among the first operations, as many as count says, no two have one name
abbrev pub AreDifferent : ℕ → (ℕ → List ℕ) → Type 0
AreDifferent count name = (i j : ℕ) → i < j → j < count → name i ≡ name j → ⊥
