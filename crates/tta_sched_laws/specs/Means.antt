-- When the lists of a program's blocks do what the program does.
use Rattle.std.specs.Prelude.{◌≡◌, ◌≢◌, ℕ, ◌+◌, ◌*◌, List, length}
use Rattle.tta_sched_laws.specs.Cited.{IsPrefixOf, Units, Machine, Program, step_count, seq, BlockList, Held, AreAddresses, lrun, IsGiven}
use Rattle.tta_program.specs.Sequential as program
use Rattle.tta_list.specs.Legs as legs
use Rattle.tta_list.specs.Legs.{Run}

-- both runs have halted, with the same memory, output and rest of the input
pub record HaltAlike (s : program.State) (r : Run Held) : Type 0 where
  pub program : s.outcome ≡ program.Halted
  pub lists : r.outcome ≡ legs.Halted
  pub memory : r.state.memory ≡ s.memory
  pub output : r.state.output ≡ s.output
  pub rest : r.state.rest ≡ s.rest

-- both runs wait for a word of the input, with the same output and rest
pub record WaitAlike (s : program.State) (r : Run Held) : Type 0 where
  pub program : s.outcome ≡ program.Waiting
  pub lists : r.outcome ≡ legs.Waiting
  pub output : r.state.output ≡ s.output
  pub rest : r.state.rest ≡ s.rest

-- The lists have a meaning whatever is given; they halt and wait as the program does, and only if the program does; and
-- each one's output so far begins the other's. A step is made by the next leg, and a leg by as many steps as there are.
pub record MeanAt (u : Units) (m : Machine) (p : Program) (lists : List BlockList) (addr memory input : List ℕ) : Type 0 where
  pub sound : (n : ℕ) → (lrun u m lists addr memory input n).outcome ≢ legs.Undefined
  pub halts : (n : ℕ) → (seq u p memory input n).outcome ≡ program.Halted → HaltAlike (seq u p memory input n) (lrun u m lists addr memory input (n + 1))
  pub waits : (n : ℕ) → (seq u p memory input n).outcome ≡ program.Waiting → WaitAlike (seq u p memory input n) (lrun u m lists addr memory input (n + 1))
  pub halts_only : (n : ℕ) → (lrun u m lists addr memory input n).outcome ≡ legs.Halted → HaltAlike (seq u p memory input (step_count p * n)) (lrun u m lists addr memory input n)
  pub waits_only : (n : ℕ) → (lrun u m lists addr memory input n).outcome ≡ legs.Waiting → WaitAlike (seq u p memory input (step_count p * n)) (lrun u m lists addr memory input n)
  pub output : (n : ℕ) → IsPrefixOf (seq u p memory input n).output (lrun u m lists addr memory input (n + 1)).state.output
  pub output_only : (n : ℕ) → IsPrefixOf (lrun u m lists addr memory input n).state.output (seq u p memory input (step_count p * n)).output

-- this holds for all addresses of the blocks, and whatever is given
abbrev pub Means : Units → Machine → Program → List BlockList → Type 0
Means u m p lists = (addr memory input : List ℕ) → AreAddresses addr (length lists) → IsGiven m memory input → MeanAt u m p lists addr memory input
