use Rattle.tta_wired.proofs.Wired.{net_is_wired}
use Rattle.tta_wired.proofs.laws.net_is_wired.Goals as goal

pub returns : goal.returns
returns c = net_is_wired
