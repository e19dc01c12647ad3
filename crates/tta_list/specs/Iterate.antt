-- A step that is taken again and again.
use Rattle.std.specs.Prelude.{ℕ, zero, suc}

-- what n steps make of a state
abbrev pub iterate : {S : Type 0} → ℕ → (S → S) → S → S
iterate zero step state = state
iterate (suc n) step state = step (iterate n step state)
