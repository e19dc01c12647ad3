use Rattle.tta_op_circuits.proofs.Stages.{stage_divides}
use Rattle.tta_op_circuits.proofs.laws.stage_divides.Goals as goal

pub returns : goal.returns
returns g c = stage_divides _ _
