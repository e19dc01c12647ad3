use Rattle.tta_loadelim.proofs.DeadStores.{thinned_keep}
use Rattle.tta_loadelim.proofs.laws.thinned_keep.Goals as goal

pub returns : goal.returns
returns c = thinned_keep
