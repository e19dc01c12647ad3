use Rattle.tta_op_circuits.proofs.Settling.{settles_to}
use Rattle.tta_op_circuits.proofs.laws.settles_to.Goals as goal

pub returns : goal.returns
returns c = settles_to
