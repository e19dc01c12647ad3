use Rattle.tta_compiler_laws.proofs.Directly.{direct_means}
use Rattle.tta_compiler_laws.proofs.laws.direct_means.Goals as goal

pub returns : goal.returns
returns c = direct_means
