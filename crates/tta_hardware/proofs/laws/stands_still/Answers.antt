use Rattle.tta_hardware.proofs.Running.{stands_still}
use Rattle.tta_hardware.proofs.laws.stands_still.Goals as goal

pub returns : goal.returns
returns c = stands_still
