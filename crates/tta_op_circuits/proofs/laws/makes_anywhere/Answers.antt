use Rattle.tta_op_circuits.proofs.Renaming.{makes_anywhere}
use Rattle.tta_op_circuits.proofs.laws.makes_anywhere.Goals as goal

pub returns : goal.returns
returns g c = makes_anywhere _ _
