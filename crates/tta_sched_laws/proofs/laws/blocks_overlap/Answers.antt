use Rattle.tta_sched_laws.proofs.Theorem.{overlaps}
use Rattle.tta_sched_laws.proofs.laws.blocks_overlap.Goals as goal

pub returns : goal.returns
returns c u m rules code legal addr back b p s h is mean opens back_is runs holds = overlaps u m rules code legal addr back b p s h is mean opens back_is runs holds
