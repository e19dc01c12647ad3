use Rattle.tta_loadelim.proofs.ServedReads.{served_alike}
use Rattle.tta_loadelim.proofs.laws.served_alike.Goals as goal

pub returns : goal.returns
returns c = served_alike
