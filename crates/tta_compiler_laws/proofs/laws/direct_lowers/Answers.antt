use Rattle.tta_compiler_laws.proofs.Directly.{direct_lowers}
use Rattle.tta_compiler_laws.proofs.laws.direct_lowers.Goals as goal

pub returns : goal.returns
returns c = direct_lowers
