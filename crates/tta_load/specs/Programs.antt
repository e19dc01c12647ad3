-- Files that hold a program.
use Rattle.std.specs.Prelude.{◌≡◌, ℕ, List, Some, None}
use Rattle.tta_load.specs.Cited.{Units, Program, first_outside, ProgramText, IsRefusedAt}
use Rattle.tta_tac.specs.declared.refusal.Refusal.{Refusal}
use Rattle.tta_tac.specs.Refusals.{code_of}
use Rattle.tta_load.specs.declared.machine.MachineFile.{MachineFile}
use Rattle.tta_load.specs.declared.status.Status.{Status}
use Rattle.tta_load.specs.declared.status.Status.TheVariants as status

-- a text is that of a program whose data lie in a space of so many words
pub record IsProgramIn (u : Units) (space : ℕ) (text : List ℕ) (program : Program) : Type 0 where
  pub read : ProgramText u text program
  pub inside : first_outside space program.init ≡ None

-- a text is refused as a program with this number at this line
pub record IsBadProgram (u : Units) (text : List ℕ) (line code : ℕ) : Type 0 where
  pub refusal : Refusal
  pub refused : IsRefusedAt u text line refusal
  pub told : code ≡ code_of refusal

-- a text is that of a program whose data do not all lie in a space of so many words: the first that does not is at this line
pub record IsOutside (u : Units) (space : ℕ) (text : List ℕ) (line have : ℕ) : Type 0 where
  pub program : Program
  pub read : ProgramText u text program
  pub outside : first_outside space program.init ≡ Some line
  pub told : have ≡ space

-- why a text gives no program for a space of so many words
abbrev pub RefusesProgram : Units → (space : ℕ) → (text : List ℕ) → Status → Type 0
RefusesProgram u space text (status.BadProgram line code) = IsBadProgram u text line code
RefusesProgram u space text (status.DataRange line have) = IsOutside u space text line have
RefusesProgram u space text status.NoMemory = Unit {0}
RefusesProgram u space text s = ⊥

-- the same for the data space of a machine
abbrev pub IsProgramFor : Units → MachineFile → (text : List ℕ) → Program → Type 0
IsProgramFor u file text program = IsProgramIn u file.machine.data_words text program

abbrev pub RefusesProgramFor : Units → MachineFile → (text : List ℕ) → Status → Type 0
RefusesProgramFor u file text s = RefusesProgram u file.machine.data_words text s
