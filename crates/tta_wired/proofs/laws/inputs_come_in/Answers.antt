use Rattle.tta_wired.proofs.Entering.{inputs_come_in}
use Rattle.tta_wired.proofs.laws.inputs_come_in.Goals as goal

pub returns : goal.returns
returns c = inputs_come_in
