use Rattle.tta_exit_laws.proofs.ViewsTaken.{run_view_completes_holds}
use Rattle.tta_exit_laws.proofs.laws.run_view_completes.Goals as goal

pub returns : goal.returns
returns c = run_view_completes_holds
