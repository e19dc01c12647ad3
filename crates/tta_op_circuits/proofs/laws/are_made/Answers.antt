use Rattle.tta_op_circuits.proofs.Operations.{are_made}
use Rattle.tta_op_circuits.proofs.laws.are_made.Goals as goal

pub returns : goal.returns
returns c = are_made
