use Rattle.std.proofs.Common.{Bool}
use Rattle.tta_exit_laws.specs.Cited.{Machine, Units, Status, IsProgramFor, RefusesProgramFor, IsImageOf, IsCauseOf}
use Rattle.tta_program.specs.Program.{Program}
use Rattle.tta_load.specs.declared.status.Status.TheVariants as status
use Rattle.tta_load.proofs.Statuses.{IsLack, program_refusal}
use Rattle.tta_load.proofs.ByStatus.{write_by_status}
use Rattle.tta_exit_laws.proofs.laws.build_by_status.Goals as goal

-- a cause for which no code is built is no status of a file
cause_lack : (converts : Bool) (u : Units) (m : Machine) (p : Program) (s : Status) → IsCauseOf converts u m p s → IsLack s
cause_lack converts u m p (status.NotCovered rule) is = tt
cause_lack converts u m p (status.NoUnit line) is = tt
cause_lack converts u m p (status.FrameFull need have) is = tt
cause_lack converts u m p (status.CodeFull words have) is = tt
cause_lack converts u m p status.NoMemory is = tt
cause_lack converts u m p s is = absurd is

pub returns : goal.returns
returns c = λ converts u M P OUT before after.
    write_by_status u (IsProgramFor u) (RefusesProgramFor u) (IsImageOf converts u) (λ file p. IsCauseOf converts u file.machine p) M P OUT before after
    (program_refusal u) (λ file p. cause_lack converts u file.machine p)
