use Rattle.tta_exit_laws.proofs.ViewsTaken.{machine_view_completes_holds}
use Rattle.tta_exit_laws.proofs.laws.machine_view_completes.Goals as goal

pub returns : goal.returns
returns c = machine_view_completes_holds
