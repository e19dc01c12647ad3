use Rattle.tta_loadelim.proofs.ServedReads.{served_keep}
use Rattle.tta_loadelim.proofs.laws.served_keep.Goals as goal

pub returns : goal.returns
returns c = served_keep
