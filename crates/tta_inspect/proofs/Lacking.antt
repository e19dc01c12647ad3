-- The statuses with which something is refused that is run, or lacks.
use Rattle.std.proofs.Common.{ℕ, List, inl, inr}
use Rattle.tta_inspect.specs.Cited.{Units, Machine, MachineFile, Status}
use Rattle.tta_program.specs.Program.{Program}
use Rattle.tta_load.specs.declared.status.Status.TheVariants as status
use Rattle.tta_load.proofs.Statuses.{IsRefusal, image_refusal, program_refusal, IsLack, memory_lack}
use Rattle.tta_inspect.specs.Stages.{IsCauseOf}
use Rattle.tta_inspect.specs.declared.subject.Subject.{Subject}
use Rattle.tta_inspect.specs.declared.subject.Subject.TheVariants.{Code as OfCode, Program as OfProgram}
use Rattle.tta_inspect.specs.Subjects.{RefusesSubject}
use Rattle.tta_inspect.specs.Runs.{Lacks}

pub subject_refusal : (u : Units) (file : MachineFile) (bytes : List ℕ) (s : Status) → RefusesSubject u file bytes s → IsRefusal s
subject_refusal u file bytes s (inl is) = image_refusal file bytes s is.1
subject_refusal u file bytes s (inr is) = program_refusal u file bytes s is.1

pub cause_lack : (u : Units) (m : Machine) (p : Program) (s : Status) → IsCauseOf u m p s → IsLack s
cause_lack u m p (status.NotCovered rule) is = tt
cause_lack u m p (status.NoUnit line) is = tt
cause_lack u m p (status.FrameFull need have) is = tt
cause_lack u m p (status.CodeFull words have) is = tt
cause_lack u m p status.NoMemory is = tt
cause_lack u m p s is = absurd is

pub subject_lack : (u : Units) (file : MachineFile) (subject : Subject) (s : Status) → Lacks u file subject s → IsLack s
subject_lack u file (OfCode whole) s is = memory_lack s is
subject_lack u file (OfProgram p) s is = cause_lack u file.machine p s is
