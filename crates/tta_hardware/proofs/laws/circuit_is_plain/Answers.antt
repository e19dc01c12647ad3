use Rattle.tta_hardware.proofs.Plainly.{circuit_is_plain}
use Rattle.tta_hardware.proofs.laws.circuit_is_plain.Goals as goal

pub returns : goal.returns
returns c = circuit_is_plain
