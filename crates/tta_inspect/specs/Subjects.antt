-- What a command runs: the code of an image, or a program, which is compiled first. A file that begins as an image is one.
use Rattle.std.specs.Prelude.{◌≡◌, ◌⊎◌, ℕ, Bool, true, false, nat_eq, List, codes}
use Rattle.std.specs.List.{starts_with}
use Rattle.tta_inspect.specs.Cited.{Units, Machine, IsLegalCode, MachineFile, Status, IsImageFor, RefusesImage, IsProgramFor, RefusesProgramFor}
use Rattle.tta_program.specs.Over as programs
use Rattle.tta_inspect.specs.declared.subject.Subject.{Subject}
use Rattle.tta_inspect.specs.declared.subject.Subject.TheVariants.{Code, Program}

-- bytes begin as those of an image do: with the four letters of its header
abbrev pub begins_as_image : (bytes : List ℕ) → Bool
begins_as_image bytes = starts_with nat_eq bytes (codes "TTAI")

-- bytes that begin as an image are that of this code for a machine; all others are the text of this program
abbrev pub IsSubject : Units → MachineFile → (bytes : List ℕ) → Subject → Type 0
IsSubject u file bytes (Code whole) = (begins_as_image bytes ≡ true) × IsImageFor file bytes whole
IsSubject u file bytes (Program p) = (begins_as_image bytes ≡ false) × IsProgramFor u file bytes p

-- why bytes give nothing to run: they begin as an image and are refused as one, or they do not and are refused as a program
abbrev pub RefusesSubject : Units → MachineFile → (bytes : List ℕ) → Status → Type 0
RefusesSubject u file bytes s =
    ((begins_as_image bytes ≡ true) × RefusesImage file bytes s) ⊎ ((begins_as_image bytes ≡ false) × RefusesProgramFor u file bytes s)

-- what is run is legal code, or a program over the operations that are there
abbrev pub Suits : Units → Machine → Subject → Type 0
Suits u m (Code whole) = IsLegalCode m whole.code
Suits u m (Program p) = programs.StandsOver u p
