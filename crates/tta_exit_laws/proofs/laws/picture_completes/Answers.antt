use Rattle.tta_exit_laws.proofs.ViewsTaken.{picture_completes_holds}
use Rattle.tta_exit_laws.proofs.laws.picture_completes.Goals as goal

pub returns : goal.returns
returns c = picture_completes_holds
