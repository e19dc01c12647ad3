-- Words that are laid over a memory.
use Rattle.std.specs.Prelude.{ℕ, List, fold, slice_set}

-- words, each with its address
abbrev pub Laid : Type 0
Laid = List (ℕ × ℕ)

-- a memory with each of these words at its address
abbrev pub over : Laid → List ℕ → List ℕ
over laid memory = fold (λ words d. slice_set words d.0 d.1) memory laid
