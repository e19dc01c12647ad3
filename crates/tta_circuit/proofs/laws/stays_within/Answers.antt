use Rattle.tta_circuit.proofs.Within.{stays_within}
use Rattle.tta_circuit.proofs.laws.stays_within.Goals as goal

pub returns : goal.returns
returns g c = stays_within _ _
