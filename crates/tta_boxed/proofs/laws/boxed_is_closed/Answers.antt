use Rattle.tta_boxed.proofs.Closed.{boxed_is_closed}
use Rattle.tta_boxed.proofs.laws.boxed_is_closed.Goals as goal

pub returns : goal.returns
returns c = boxed_is_closed
