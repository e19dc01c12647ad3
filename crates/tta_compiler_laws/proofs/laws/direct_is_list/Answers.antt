use Rattle.tta_compiler_laws.proofs.Directly.{direct_is_list}
use Rattle.tta_compiler_laws.proofs.laws.direct_is_list.Goals as goal

pub returns : goal.returns
returns c = direct_is_list
