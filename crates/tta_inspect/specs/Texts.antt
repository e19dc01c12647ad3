-- How a command ends that outputs a text of a machine with code or a program.
use Rattle.std.specs.Prelude.{ℕ, List}
use Rattle.tta_inspect.specs.Cited.{World, Output, Units, MachineFile, Status, Puts, PutEndings}
use Rattle.tta_inspect.specs.declared.subject.Subject.{Subject}
use Rattle.tta_inspect.specs.Subjects.{IsSubject, RefusesSubject}
use Rattle.tta_inspect.specs.Runs.{Lacks}

-- How a command ends that is given the files of a machine and of an image or a program: a text of them is output, or nothing is and there is a
-- cause, which for a program may be that `build` builds no code of it. Each ending but out of memory comes only where its cause holds.
abbrev pub ShowsText : Units → (MachineFile → Subject → (text : List ℕ) → Type 0) → (M F : List ℕ) → (before after : World) → (old new : Output) → Status → Type 0
ShowsText u Is M F before after old new s = Puts u (IsSubject u) (RefusesSubject u) Is (Lacks u) M F before after old new s

-- ---- how it ends by its status

-- what holds where it ends with a status
abbrev pub TextEndings : Units → (MachineFile → Subject → (text : List ℕ) → Type 0) → (M F : List ℕ) → (before after : World) → (old new : Output) → Status → Type 0
TextEndings u Is M F before after old new s = PutEndings u (IsSubject u) (RefusesSubject u) Is (Lacks u) M F before after old new s
