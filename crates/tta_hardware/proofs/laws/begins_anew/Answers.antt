use Rattle.tta_hardware.proofs.Running.{begins_anew}
use Rattle.tta_hardware.proofs.laws.begins_anew.Goals as goal

pub returns : goal.returns
returns c = begins_anew
