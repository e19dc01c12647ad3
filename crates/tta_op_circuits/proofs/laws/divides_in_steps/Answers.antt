use Rattle.tta_op_circuits.proofs.Dividing.{divides_in_steps}
use Rattle.tta_op_circuits.proofs.laws.divides_in_steps.Goals as goal

pub returns : goal.returns
returns c = divides_in_steps
