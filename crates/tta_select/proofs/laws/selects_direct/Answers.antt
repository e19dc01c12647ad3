use Rattle.tta_select.proofs.DirectLists.{selects_direct}
use Rattle.tta_select.proofs.laws.selects_direct.Goals as goal

pub returns : goal.returns
returns c = selects_direct
