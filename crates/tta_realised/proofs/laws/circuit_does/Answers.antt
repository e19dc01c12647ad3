use Rattle.tta_realised.proofs.Doing.{circuit_does}
use Rattle.tta_realised.proofs.laws.circuit_does.Goals as goal

pub returns : goal.returns
returns c = circuit_does
