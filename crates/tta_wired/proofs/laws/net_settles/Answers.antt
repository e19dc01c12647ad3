use Rattle.tta_wired.proofs.Settling.{net_settles}
use Rattle.tta_wired.proofs.laws.net_settles.Goals as goal

pub returns : goal.returns
returns c = net_settles
