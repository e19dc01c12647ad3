use Rattle.tta_inspect.specs.Subjects.{IsSubject, RefusesSubject}
use Rattle.tta_inspect.specs.Cited.{TextRows}
use Rattle.tta_inspect.specs.Runs.{IsShown, Lacks, Tells}
use Rattle.tta_load.proofs.ByStatus.{text_of_row}
use Rattle.tta_load.proofs.RunsByStatus.{text_reported, run_by_status}
use Rattle.tta_inspect.proofs.Lacking.{subject_refusal, subject_lack}
use Rattle.tta_inspect.proofs.laws.run_by_status.Goals as goal

pub returns : goal.returns
returns c = λ u view M F IN STREAM bound before after old new.
    run_by_status u (IsSubject u) (RefusesSubject u) (Tells u view bound)
    (λ file subject memory words. TextRows (IsShown u view bound file subject memory words) (Lacks u file subject))
    M F IN STREAM before after old new (subject_refusal u)
    (λ file subject memory words. text_reported (IsShown u view bound file subject memory words) (Lacks u file subject) old new (subject_lack u file subject))
    (λ file subject memory words. text_of_row (IsShown u view bound file subject memory words) (Lacks u file subject) old new)
