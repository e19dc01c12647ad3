use Rattle.tta_sched_laws.proofs.Built.{built_agrees}
use Rattle.tta_sched_laws.proofs.laws.built_agrees.Goals as goal

pub returns : goal.returns
returns c u m rules p whole lists ps built = built_agrees u m rules p whole lists ps built
