use Rattle.tta_hardware.proofs.Filled.{filled_runs}
use Rattle.tta_hardware.proofs.laws.filled_runs.Goals as goal

pub returns : goal.returns
returns c = filled_runs
