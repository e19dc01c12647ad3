use Rattle.tta_wired.proofs.Running.{net_runs}
use Rattle.tta_wired.proofs.laws.net_runs.Goals as goal

pub returns : goal.returns
returns c = net_runs
