use Rattle.tta_exit_laws.proofs.ViewsTaken.{prompt_completes_holds}
use Rattle.tta_exit_laws.proofs.laws.prompt_completes.Goals as goal

pub returns : goal.returns
returns c = prompt_completes_holds
