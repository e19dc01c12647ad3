use Rattle.tta_compiler_laws.proofs.Room.{lists_fit}
use Rattle.tta_compiler_laws.proofs.laws.lists_fit.Goals as goal

pub returns : goal.returns
returns c = lists_fit
