use Rattle.std.proofs.Common.{ap}
use Rattle.tta_program.specs.Sequential.{State}
use Rattle.tta_exit_laws.specs.Cited.{Output, program_at, Status, IsProgramFor, RefusesProgramFor, ReportEnds}
use Rattle.tta_run.specs.declared.ended.Ended.TheVariants as ended
use Rattle.tta_load.specs.declared.status.Status.TheVariants as status
use Rattle.tta_load.proofs.Statuses.{program_refusal}
use Rattle.tta_load.proofs.RunsByStatus.{Reported, run_by_status}
use Rattle.tta_tool.specs.Steps.{ended_of, run_text}
use Rattle.tta_tool.specs.Exec.{Reports}
use Rattle.tta_tool.proofs.Outcomes.{program_ended, no_fault}
use Rattle.tta_exit_laws.specs.Exec.{ProgramRows}
use Rattle.tta_exit_laws.proofs.laws.exec_by_status.Goals as goal

-- how a program reports says what its row does
reported : (end : State) (old new : Output) (s : Status) → ReportEnds (run_text end) (ended_of end.outcome) old new s
    → Reported (ProgramRows end old new) old new s
reported end old new status.Ok e = (program_ended _ ended.Halted e.0, e.1)
reported end old new status.Running e = (program_ended _ ended.Running e.0, e.1)
reported end old new status.Waiting e = (program_ended _ ended.Waiting e.0, e.1)
reported end old new (status.MachineFault code cycle) e = no_fault _ code cycle e.0
reported end old new s e = e

reports : (end : State) (old new : Output) (s : Status) → ProgramRows end old new s → ReportEnds (run_text end) (ended_of end.outcome) old new s
reports end old new status.Ok e = (ap ended_of e.0, e.1)
reports end old new status.Running e = (ap ended_of e.0, e.1)
reports end old new status.Waiting e = (ap ended_of e.0, e.1)
reports end old new status.WriteFault e = e
reports end old new s e = absurd e

pub returns : goal.returns
returns c = λ u M P IN STREAM bound before after old new.
    run_by_status u (IsProgramFor u) (RefusesProgramFor u) (Reports u bound) (λ file p memory words. ProgramRows (program_at u p memory words bound))
    M P IN STREAM before after old new (program_refusal u) (λ file p memory words. reported (program_at u p memory words bound) old new)
    (λ file p memory words. reports (program_at u p memory words bound) old new)
