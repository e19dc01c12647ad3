use Rattle.tta_boxed.proofs.Running.{boxed_runs}
use Rattle.tta_boxed.proofs.laws.boxed_runs.Goals as goal

pub returns : goal.returns
returns c = boxed_runs
