use Rattle.tta_compiler_laws.proofs.Directly.{direct_links}
use Rattle.tta_compiler_laws.proofs.laws.direct_links.Goals as goal

pub returns : goal.returns
returns c = direct_links
