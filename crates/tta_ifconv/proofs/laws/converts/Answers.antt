use Rattle.tta_ifconv.proofs.Whole.{converts_holds}
use Rattle.tta_ifconv.proofs.laws.converts.Goals as goal

pub returns : goal.returns
returns c = converts_holds
