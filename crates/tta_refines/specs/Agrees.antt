-- When code with data does what a program does.
use Rattle.std.specs.Prelude.{◌≡◌, ◌≢◌, ℕ, ◌+◌, ◌*◌, ◌<◌, ◌^◌, List, length}
use Rattle.std.specs.List.{AllByRecursion}
use Rattle.tta_list.specs.Prefix.{IsPrefixOf}
use Rattle.tta_list.specs.Laid.{over}
use Rattle.tta_ops.specs.Units.{Units}
use Rattle.tta_arch.specs.Machine.{Machine}
use Rattle.tta_program.specs.Program.{Program, step_count, data_of}
use Rattle.tta_program.specs.Sequential as program
use Rattle.tta_program.specs.Sequential.{seq}
use Rattle.tta_code.specs.Whole.{Whole, data_in}
use Rattle.tta_code.specs.Cycle as cycle
use Rattle.tta_code.specs.Cycle.{cyc}

-- words of 32 bits
abbrev pub AreWords : List ℕ → Type 0
AreWords = AllByRecursion (λ w. w < 2 ^ 32)

-- what a run is given: a word for each address of the machine's data space, and words of input
pub record IsGiven (m : Machine) (memory input : List ℕ) : Type 0 where
  pub size : length memory ≡ m.data_words
  pub words : AreWords memory
  pub inputs : AreWords input

-- the program's state after n steps, its data laid over the memory that it is given
abbrev pub program_at : Units → Program → (memory input : List ℕ) → ℕ → program.State
program_at u p memory input n = seq u p (over (data_of p) memory) input n

-- the code's state after n cycles, its data laid over the memory that it is given
abbrev pub code_at : Units → Machine → Whole → (memory input : List ℕ) → ℕ → cycle.State
code_at u m whole memory input n = cyc u m whole.code (over (data_in whole) memory) input n

-- both runs have halted, with the same memory, output and rest of the input
pub record HaltAlike (s : program.State) (t : cycle.State) : Type 0 where
  pub program : s.outcome ≡ program.Halted
  pub code : t.outcome ≡ cycle.Halted
  pub memory : t.memory ≡ s.memory
  pub output : t.output ≡ s.output
  pub rest : t.rest ≡ s.rest

-- both runs wait for a word of the input, with the same output and rest
pub record WaitAlike (s : program.State) (t : cycle.State) : Type 0 where
  pub program : s.outcome ≡ program.Waiting
  pub code : t.outcome ≡ cycle.Waiting
  pub output : t.output ≡ s.output
  pub rest : t.rest ≡ s.rest

-- From every memory, for every input and every bound: the code never faults; it halts as the program does, and only if
-- the program does; it waits as the program does, and only if the program does; and each one's output so far begins the
-- other's. A program's step takes at most as many cycles as there are instructions, and a cycle stands for at most `rate`
-- of the program's steps.
pub record AgreesAt (u : Units) (m : Machine) (p : Program) (rate : ℕ) (whole : Whole) : Type 0 where
  pub no_fault : (memory input : List ℕ) (n number at : ℕ) → IsGiven m memory input
      → (code_at u m whole memory input n).outcome ≢ cycle.Fault number at
  pub halts : (memory input : List ℕ) (n : ℕ) → IsGiven m memory input → (program_at u p memory input n).outcome ≡ program.Halted
      → HaltAlike (program_at u p memory input n) (code_at u m whole memory input (length whole.code.words * (n + 1)))
  pub waits : (memory input : List ℕ) (n : ℕ) → IsGiven m memory input → (program_at u p memory input n).outcome ≡ program.Waiting
      → WaitAlike (program_at u p memory input n) (code_at u m whole memory input (length whole.code.words * (n + 1)))
  pub halts_only : (memory input : List ℕ) (n : ℕ) → IsGiven m memory input → (code_at u m whole memory input n).outcome ≡ cycle.Halted
      → HaltAlike (program_at u p memory input (rate * (n + 1))) (code_at u m whole memory input n)
  pub waits_only : (memory input : List ℕ) (n : ℕ) → IsGiven m memory input → (code_at u m whole memory input n).outcome ≡ cycle.Waiting
      → WaitAlike (program_at u p memory input (rate * (n + 1))) (code_at u m whole memory input n)
  pub output : (memory input : List ℕ) (n : ℕ) → IsGiven m memory input
      → IsPrefixOf (program_at u p memory input n).output (code_at u m whole memory input (length whole.code.words * (n + 1))).output
  pub output_only : (memory input : List ℕ) (n : ℕ) → IsGiven m memory input
      → IsPrefixOf (code_at u m whole memory input n).output (program_at u p memory input (rate * (n + 1))).output

-- The code agrees with the program where a cycle stands for at most as many steps as the program has.
abbrev pub Agrees : Units → Machine → Program → Whole → Type 0
Agrees u m p whole = AgreesAt u m p (step_count p) whole
