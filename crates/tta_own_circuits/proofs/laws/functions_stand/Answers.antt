use Rattle.tta_own_circuits.proofs.Standing.{functions_stand}
use Rattle.tta_own_circuits.proofs.laws.functions_stand.Goals as goal

pub returns : goal.returns
returns c = functions_stand
