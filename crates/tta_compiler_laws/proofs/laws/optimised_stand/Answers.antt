use Rattle.tta_compiler_laws.proofs.Composed.{optimised_stand}
use Rattle.tta_compiler_laws.proofs.laws.optimised_stand.Goals as goal

pub returns : goal.returns
returns c = optimised_stand
