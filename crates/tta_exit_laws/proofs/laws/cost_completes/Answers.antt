use Rattle.tta_exit_laws.proofs.CostsTaken.{cost_completes_holds}
use Rattle.tta_exit_laws.proofs.laws.cost_completes.Goals as goal

pub returns : goal.returns
returns c = cost_completes_holds
