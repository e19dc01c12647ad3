use Rattle.tta_reorder.proofs.Counts.{orders_ask_no_more}
use Rattle.tta_reorder.proofs.laws.orders_ask_no_more.Goals as goal

pub returns : goal.returns
returns c = orders_ask_no_more
