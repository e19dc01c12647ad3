-- What `rtl` does, and why it does not.
use Rattle.std.specs.Prelude.{◌≡◌, ◌↔◌, ℕ, List, None}
use Rattle.tta_inspect.specs.Cited.{World, Output, Units, Machine, first_outside, Whole, IsLegalWhole, IsBuilt, TellsImage, headed_file, headed_rtl, MachineFile, Status}
use Rattle.tta_program.specs.Over as programs
use Rattle.tta_program.specs.Program.{Program as Source}
use Rattle.tta_inspect.specs.declared.view.CircuitView.{CircuitView}
use Rattle.tta_inspect.specs.declared.view.CircuitView.TheVariants.{Module, CodeFile}
use Rattle.tta_inspect.specs.declared.subject.Subject.{Subject}
use Rattle.tta_inspect.specs.declared.subject.Subject.TheVariants.{Code, Program}
use Rattle.tta_inspect.specs.Texts.{ShowsText, TextEndings}

-- The text of the circuit of a machine with code and data, of this image: a module that does these things, with the words of the code in
-- it or in a file; or that file.
abbrev pub circuit_text : Units → CircuitView → MachineFile → Whole → (image : List ℕ) → List ℕ
circuit_text u (Module r features) file whole image = headed_rtl u file.machine file.digest r features image whole
circuit_text u CodeFile file whole image = headed_file file.machine file.digest image whole

-- a text is that of the circuit of a machine with code and data
abbrev pub IsWholeCircuit : Units → CircuitView → MachineFile → Whole → (text : List ℕ) → Type 0
IsWholeCircuit u view file whole text = TellsImage file.machine file.digest whole (circuit_text u view file whole) text

-- A text is the circuit of a machine with the code that is built of a program, and its data.
pub record IsBuiltCircuit (u : Units) (view : CircuitView) (file : MachineFile) (p : Source) (text : List ℕ) : Type 0 where
  pub whole : Whole
  pub built : IsBuilt u file.machine p whole
  pub is : IsWholeCircuit u view file whole text

-- a text is that of the circuit of a machine with what was read for it
abbrev pub IsCircuitText : Units → CircuitView → MachineFile → Subject → (text : List ℕ) → Type 0
IsCircuitText u view file (Code whole) text = IsWholeCircuit u view file whole text
IsCircuitText u view file (Program p) text = IsBuiltCircuit u view file p text

-- what a circuit is made of: legal code with its data, or a program over the operations that are there, whose data lie in the data space
abbrev pub Suits : Units → Machine → Subject → Type 0
Suits u m (Code whole) = IsLegalWhole m whole
Suits u m (Program p) = programs.StandsOver u p × (first_outside m.data_words p.init ≡ None)

-- How `rtl M F` ends, where F is the file of an image or of a program: a text of the circuit is output, or nothing is and there is a cause, which
-- for a program may be that `build` builds no code of it. Each ending but out of memory comes only where its cause holds.
abbrev pub ShowsCircuit : Units → CircuitView → (M F : List ℕ) → (before after : World) → (old new : Output) → Status → Type 0
ShowsCircuit u view M F before after old new s = ShowsText u (IsCircuitText u view) M F before after old new s

-- what holds where it ends with a status
abbrev pub CircuitEndings : Units → CircuitView → (M F : List ℕ) → (before after : World) → (old new : Output) → Status → Type 0
CircuitEndings u view M F before after old new s = TextEndings u (IsCircuitText u view) M F before after old new s

-- its clause says this of each status
abbrev pub CircuitByStatus : Type 0
CircuitByStatus =
    (u : Units) (view : CircuitView) (M F : List ℕ) (before after : World) (old new : Output) (s : Status)
    → ShowsCircuit u view M F before after old new s ↔ CircuitEndings u view M F before after old new s
