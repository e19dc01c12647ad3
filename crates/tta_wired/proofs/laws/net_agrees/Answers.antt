use Rattle.tta_wired.proofs.Agreeing.{net_agrees}
use Rattle.tta_wired.proofs.laws.net_agrees.Goals as goal

pub returns : goal.returns
returns c = net_agrees
