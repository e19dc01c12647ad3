-- What a module owes that makes an operation of two words beside a circuit.
use Rattle.std.specs.Prelude.{◌≡◌, ℕ, zero, suc, ◌-◌, Bool, if◌then◌else◌, List, [], ◌∷◌, Some, slice_get}

-- the words that a module was given at those clocks of the first t at which it was enabled, the last first
abbrev pub taken_in : (given : ℕ → ℕ × ℕ) → (enabled : ℕ → Bool) → ℕ → List (ℕ × ℕ)
taken_in given enabled zero = []
taken_in given enabled (suc t) = if enabled t then given t ∷ taken_in given enabled t else taken_in given enabled t

-- A module of so many stages makes an operation: at each clock it shows what the operation makes of the words that it was given as many
-- enabled clocks before, where there were as many. What it shows before is not said.
abbrev pub Serves : (op : ℕ → ℕ → ℕ) → (stages : ℕ) → (given : ℕ → ℕ × ℕ) → (enabled : ℕ → Bool) → (shown : ℕ → ℕ) → Type 0
Serves op stages given enabled shown =
    (t : ℕ) (words : ℕ × ℕ) → slice_get (taken_in given enabled t) (stages - 1) ≡ Some words → shown t ≡ op words.0 words.1
