-- A sample's program halts within its bound of steps.
use Rattle.std.specs.Prelude.{◌≡◌, ◌<◌, ℕ, ◌+◌, ◌*◌, ◌^◌, List, Some, codes}
use Rattle.tta_sample_laws.specs.Cited.{Units, named, compare, Program, seq, Halted, ProgramText, sample_text}
use Rattle.tta_ops.specs.Arithmetic.{arith}

-- The operations that count a sample's rounds are the standard ones: the difference of two words, and whether they are equal.
-- No other operation matters.
pub record CountsRounds (u : Units) : Type 0 where
  pub sub : (op a b : ℕ) → named u (codes "sub") ≡ Some op → u.value op a b ≡ (arith 1).value a b
  pub eq : (op a b : ℕ) → named u (codes "eq") ≡ Some op → u.value op a b ≡ (compare 0).value a b

-- The steps within which a sample halts: 16 rounds, each of at most two steps a line and two that count it, and the steps
-- before and after the rounds.
abbrev pub bound_of : (lines : ℕ) → ℕ
bound_of lines = 32 * lines + 50

-- The program of a sample halts within its bound, from any memory and for any input.
abbrev pub SamplesHalt : Type 0
SamplesHalt =
    (u : Units) (seed lines : ℕ) (p : Program) (memory input : List ℕ) → CountsRounds u → lines < 2 ^ 32 → ProgramText u (sample_text seed lines) p
    → (seq u p memory input (bound_of lines)).outcome ≡ Halted
