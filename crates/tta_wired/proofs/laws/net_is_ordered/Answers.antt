use Rattle.tta_wired.proofs.Ordered.{net_is_ordered}
use Rattle.tta_wired.proofs.laws.net_is_ordered.Goals as goal

pub returns : goal.returns
returns c = net_is_ordered
