use Rattle.tta_kahn.proofs.Orders.{programs_compare}
use Rattle.tta_kahn.proofs.laws.programs_compare.Goals as goal

pub returns : goal.returns
returns c = programs_compare
