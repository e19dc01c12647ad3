use Rattle.tta_kahn.proofs.Orders.{cores_compare}
use Rattle.tta_kahn.proofs.laws.cores_compare.Goals as goal

pub returns : goal.returns
returns c = cores_compare
