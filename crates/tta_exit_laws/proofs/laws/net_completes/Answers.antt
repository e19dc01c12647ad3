use Rattle.tta_exit_laws.proofs.NetTaken.{net_completes_holds}
use Rattle.tta_exit_laws.proofs.laws.net_completes.Goals as goal

pub returns : goal.returns
returns c = net_completes_holds
