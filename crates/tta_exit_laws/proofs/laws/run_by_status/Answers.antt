use Rattle.std.proofs.Common.{ap}
use Rattle.tta_code.specs.Cycle.{State}
use Rattle.tta_exit_laws.specs.Cited.{Output, code_at, Status, IsImageFor, RefusesImage, ReportEnds}
use Rattle.tta_run.specs.declared.ended.Ended.TheVariants as ended
use Rattle.tta_load.specs.declared.status.Status.TheVariants as status
use Rattle.tta_load.proofs.Statuses.{image_refusal}
use Rattle.tta_load.proofs.RunsByStatus.{Reported, run_by_status}
use Rattle.tta_code_run.specs.Cycles.{ended_of, run_text}
use Rattle.tta_tool.specs.Run.{Reports}
use Rattle.tta_tool.proofs.Outcomes.{code_ended}
use Rattle.tta_exit_laws.specs.Run.{CodeRows}
use Rattle.tta_exit_laws.proofs.laws.run_by_status.Goals as goal

-- how code reports says what its row does
reported : (end : State) (old new : Output) (s : Status) → ReportEnds (run_text end) (ended_of end.outcome) old new s
    → Reported (CodeRows end old new) old new s
reported end old new status.Ok e = (code_ended _ ended.Halted e.0, e.1)
reported end old new status.Running e = (code_ended _ ended.Running e.0, e.1)
reported end old new status.Waiting e = (code_ended _ ended.Waiting e.0, e.1)
reported end old new (status.MachineFault code cycle) e = (code_ended _ (ended.Fault code cycle) e.0, e.1)
reported end old new s e = e

reports : (end : State) (old new : Output) (s : Status) → CodeRows end old new s → ReportEnds (run_text end) (ended_of end.outcome) old new s
reports end old new status.Ok e = (ap ended_of e.0, e.1)
reports end old new status.Running e = (ap ended_of e.0, e.1)
reports end old new status.Waiting e = (ap ended_of e.0, e.1)
reports end old new (status.MachineFault code cycle) e = (ap ended_of e.0, e.1)
reports end old new status.WriteFault e = e
reports end old new s e = absurd e

pub returns : goal.returns
returns c = λ u M IMG IN STREAM bound before after old new.
    run_by_status u IsImageFor RefusesImage (Reports u bound) (λ file whole memory words. CodeRows (code_at u file.machine whole memory words bound))
    M IMG IN STREAM before after old new image_refusal (λ file whole memory words. reported (code_at u file.machine whole memory words bound) old new)
    (λ file whole memory words. reports (code_at u file.machine whole memory words bound) old new)
