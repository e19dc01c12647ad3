-- What `picture M F` does, and why it does not.
use Rattle.std.specs.Prelude.{◌≡◌, ◌↔◌, ℕ, List, []}
use Rattle.tta_inspect.specs.Cited.{World, Output, Units, Whole, Stages, AreStages, picture_of_code, MachineFile, Status}
use Rattle.tta_program.specs.Program.{Program as Source}
use Rattle.tta_inspect.specs.declared.subject.Subject.{Subject}
use Rattle.tta_inspect.specs.declared.subject.Subject.TheVariants.{Code, Program}
use Rattle.tta_inspect.specs.Remarks.{remarks_of}
use Rattle.tta_inspect.specs.Texts.{ShowsText, TextEndings}

-- a text is the picture of code for a machine
abbrev pub IsWholePicture : Units → MachineFile → Whole → (text : List ℕ) → Type 0
IsWholePicture u file whole text = text ≡ picture_of_code u file.machine whole.code []

-- The program has stages on the way to code for the machine, and a text is the picture of their code, with remarks on the rows in which
-- its blocks begin.
pub record IsBuiltPicture (u : Units) (file : MachineFile) (p : Source) (text : List ℕ) : Type 0 where
  pub stages : Stages
  pub are : AreStages u file.machine p stages
  pub is : text ≡ picture_of_code u file.machine stages.code (remarks_of p stages)

-- a text is the picture of what was read for a machine
abbrev pub IsPictureText : Units → MachineFile → Subject → (text : List ℕ) → Type 0
IsPictureText u file (Code whole) text = IsWholePicture u file whole text
IsPictureText u file (Program p) text = IsBuiltPicture u file p text

-- How `picture M F` ends, where F is the file of an image or of a program: the picture is output, or nothing is and there is a cause, which
-- for a program may be that `build` builds no code of it. Each ending but out of memory comes only where its cause holds.
abbrev pub ShowsPicture : Units → (M F : List ℕ) → (before after : World) → (old new : Output) → Status → Type 0
ShowsPicture u M F before after old new s = ShowsText u (IsPictureText u) M F before after old new s

-- what holds where it ends with a status
abbrev pub PictureEndings : Units → (M F : List ℕ) → (before after : World) → (old new : Output) → Status → Type 0
PictureEndings u M F before after old new s = TextEndings u (IsPictureText u) M F before after old new s

-- its clause says this of each status
abbrev pub PictureByStatus : Type 0
PictureByStatus =
    (u : Units) (M F : List ℕ) (before after : World) (old new : Output) (s : Status)
    → ShowsPicture u M F before after old new s ↔ PictureEndings u M F before after old new s
