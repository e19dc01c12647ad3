use Rattle.tta_exit_laws.proofs.ViewsTaken.{info_completes_holds}
use Rattle.tta_exit_laws.proofs.laws.info_completes.Goals as goal

pub returns : goal.returns
returns c = info_completes_holds
