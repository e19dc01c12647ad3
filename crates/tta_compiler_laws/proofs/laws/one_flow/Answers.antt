use Rattle.tta_compiler_laws.proofs.Once.{one_flow}
use Rattle.tta_compiler_laws.proofs.laws.one_flow.Goals as goal

pub returns : goal.returns
returns c = one_flow
