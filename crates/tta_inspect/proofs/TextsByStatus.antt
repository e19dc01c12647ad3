-- How a command ends that outputs a text of a machine with code or a program, status by status.
use Rattle.std.proofs.Common.{◌↔◌, ℕ, List}
use Rattle.tta_inspect.specs.Cited.{World, Output, Units, MachineFile, Status}
use Rattle.tta_load.proofs.ByStatus.{put_by_status}
use Rattle.tta_inspect.specs.declared.subject.Subject.{Subject}
use Rattle.tta_inspect.specs.Subjects.{IsSubject, RefusesSubject}
use Rattle.tta_inspect.specs.Runs.{Lacks}
use Rattle.tta_inspect.specs.Texts.{ShowsText, TextEndings}
use Rattle.tta_inspect.proofs.Lacking.{subject_refusal, subject_lack}

pub text_by_status : (u : Units) (Is : MachineFile → Subject → (text : List ℕ) → Type 0) (M F : List ℕ) (before after : World) (old new : Output)
    (s : Status) → ShowsText u Is M F before after old new s ↔ TextEndings u Is M F before after old new s
text_by_status u Is M F before after old new =
    put_by_status u (IsSubject u) (RefusesSubject u) Is (Lacks u) M F before after old new (subject_refusal u) (subject_lack u)
