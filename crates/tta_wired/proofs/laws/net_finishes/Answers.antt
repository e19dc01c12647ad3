use Rattle.tta_wired.proofs.Finishing.{net_finishes}
use Rattle.tta_wired.proofs.laws.net_finishes.Goals as goal

pub returns : goal.returns
returns c = net_finishes
