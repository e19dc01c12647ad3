use Rattle.tta_realised.proofs.Faultless.{circuit_tells_none}
use Rattle.tta_realised.proofs.laws.circuit_tells_none.Goals as goal

pub returns : goal.returns
returns c = circuit_tells_none
