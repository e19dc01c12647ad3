use Rattle.tta_inspect.specs.Cited.{IsProgramFor, RefusesProgramFor}
use Rattle.tta_load.proofs.Statuses.{program_refusal}
use Rattle.tta_load.proofs.ByStatus.{put_by_status}
use Rattle.tta_inspect.specs.Stages.{IsStagesOf, IsCauseOf}
use Rattle.tta_inspect.proofs.Lacking.{cause_lack}
use Rattle.tta_inspect.proofs.laws.stages_by_status.Goals as goal

pub returns : goal.returns
returns c = λ u view M P before after old new.
    put_by_status u (IsProgramFor u) (RefusesProgramFor u) (IsStagesOf u view) (λ file p. IsCauseOf u file.machine p) M P before after old new
    (program_refusal u) (λ file p. cause_lack u file.machine p)
