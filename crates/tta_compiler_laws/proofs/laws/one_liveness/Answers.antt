use Rattle.tta_compiler_laws.proofs.Once.{one_liveness}
use Rattle.tta_compiler_laws.proofs.laws.one_liveness.Goals as goal

pub returns : goal.returns
returns c = one_liveness
