use Rattle.tta_exit_laws.proofs.CircuitsTaken.{circuit_completes_holds}
use Rattle.tta_exit_laws.proofs.laws.circuit_completes.Goals as goal

pub returns : goal.returns
returns c = circuit_completes_holds
