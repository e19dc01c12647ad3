use Rattle.tta_hardware.proofs.ReadsThere.{circuit_is_closed}
use Rattle.tta_hardware.proofs.laws.circuit_is_closed.Goals as goal

pub returns : goal.returns
returns c = circuit_is_closed
