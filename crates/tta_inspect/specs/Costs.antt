-- What `cost` does with code, and why it does not.
use Rattle.std.specs.Prelude.{◌≡◌, ◌↔◌, ℕ, List}
use Rattle.tta_inspect.specs.Cited.{World, Output, Units, Whole, IsBuilt, circuit_of, cost_text, first_words, MachineFile, Status}
use Rattle.tta_program.specs.Program.{Program as Source}
use Rattle.tta_inspect.specs.declared.subject.Subject.{Subject}
use Rattle.tta_inspect.specs.declared.subject.Subject.TheVariants.{Code, Program}
use Rattle.tta_inspect.specs.Texts.{ShowsText, TextEndings}

-- a text is what the circuit of a machine with code and data is made of
abbrev pub IsWholeCost : Units → MachineFile → Whole → (text : List ℕ) → Type 0
IsWholeCost u file whole text = text ≡ cost_text u file.machine (circuit_of file.machine whole.code (first_words file.machine whole))

-- A text is what the circuit of a machine is made of, with the code that is built of a program, and its data.
pub record IsBuiltCost (u : Units) (file : MachineFile) (p : Source) (text : List ℕ) : Type 0 where
  pub whole : Whole
  pub built : IsBuilt u file.machine p whole
  pub is : IsWholeCost u file whole text

-- a text is what the circuit of a machine is made of, with what was read for it
abbrev pub IsCostText : Units → MachineFile → Subject → (text : List ℕ) → Type 0
IsCostText u file (Code whole) text = IsWholeCost u file whole text
IsCostText u file (Program p) text = IsBuiltCost u file p text

-- How `cost M F` ends, where F is the file of an image or of a program: that is output, or nothing is and there is a cause, which for
-- a program may be that `build` builds no code of it. Each ending but out of memory comes only where its cause holds.
abbrev pub ShowsCost : Units → (M F : List ℕ) → (before after : World) → (old new : Output) → Status → Type 0
ShowsCost u M F before after old new s = ShowsText u (IsCostText u) M F before after old new s

-- what holds where it ends with a status
abbrev pub CostEndings : Units → (M F : List ℕ) → (before after : World) → (old new : Output) → Status → Type 0
CostEndings u M F before after old new s = TextEndings u (IsCostText u) M F before after old new s

-- its clause says this of each status
abbrev pub CostByStatus : Type 0
CostByStatus =
    (u : Units) (M F : List ℕ) (before after : World) (old new : Output) (s : Status)
    → ShowsCost u M F before after old new s ↔ CostEndings u M F before after old new s
