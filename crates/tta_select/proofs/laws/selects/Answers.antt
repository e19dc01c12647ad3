use Rattle.tta_select.proofs.Selecting.{selects}
use Rattle.tta_select.proofs.laws.selects.Goals as goal

pub returns : goal.returns
returns c = selects
