use Rattle.tta_exit_laws.proofs.CircuitsTaken.{net_text_completes_holds}
use Rattle.tta_exit_laws.proofs.laws.net_text_completes.Goals as goal

pub returns : goal.returns
returns c = net_text_completes_holds
