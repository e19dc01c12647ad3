-- When register code has the meaning of a program.
use Rattle.std.specs.Prelude.{◌≡◌, ℕ, ◌+◌, ◌*◌, true, false, List}
use Rattle.tta_lower.specs.Cited.{IsPrefixOf, Units, Program, step_count, seq, Rir, is_running, rrun}
use Rattle.tta_program.specs.Sequential as program
use Rattle.tta_lir.specs.Meaning.{State}

-- two runs have the same outcome, data, output and rest of the input
pub record EndAlike (s : program.State) (t : State) : Type 0 where
  pub outcome : t.outcome ≡ s.outcome
  pub memory : t.memory ≡ s.memory
  pub output : t.output ≡ s.output
  pub rest : t.rest ≡ s.rest

-- For every memory, input and bound: the code's run has a meaning; it ends where the program does and only there, with
-- the same outcome, data, output and rest of the input; and the output of each run so far begins that of the other, with
-- one leg more than the steps, and as many steps a leg as the program has.
pub record KeepsMeaning (u : Units) (p : Program) (r : Rir) : Type 0 where
  pub meaning : (memory input : List ℕ) (n : ℕ) → (rrun u r memory input n).sound ≡ true
  pub ends : (memory input : List ℕ) (n : ℕ) → is_running (seq u p memory input n).outcome ≡ false
      → EndAlike (seq u p memory input n) (rrun u r memory input (n + 1))
  pub ends_only : (memory input : List ℕ) (n : ℕ) → is_running (rrun u r memory input n).outcome ≡ false
      → EndAlike (seq u p memory input (step_count p * n)) (rrun u r memory input n)
  pub output : (memory input : List ℕ) (n : ℕ) → IsPrefixOf (seq u p memory input n).output (rrun u r memory input (n + 1)).output
  pub output_only : (memory input : List ℕ) (n : ℕ) → IsPrefixOf (rrun u r memory input n).output (seq u p memory input (step_count p * n)).output
