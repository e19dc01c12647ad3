use Rattle.tta_compiler_laws.proofs.Composed.{lists_mean}
use Rattle.tta_compiler_laws.proofs.laws.lists_mean.Goals as goal

pub returns : goal.returns
returns c = lists_mean
