use Rattle.tta_compiler_laws.proofs.Directly.{direct_agrees}
use Rattle.tta_compiler_laws.proofs.laws.direct_agrees.Goals as goal

pub returns : goal.returns
returns c = direct_agrees
