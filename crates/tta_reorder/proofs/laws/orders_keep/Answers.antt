use Rattle.tta_reorder.proofs.Drawn.{orders_keep}
use Rattle.tta_reorder.proofs.laws.orders_keep.Goals as goal

pub returns : goal.returns
returns c = orders_keep
