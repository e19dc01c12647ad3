use Rattle.tta_trap.proofs.Onward.{knows_on}
use Rattle.tta_trap.proofs.laws.knows_on.Goals as goal

pub returns : goal.returns
returns c = knows_on
