use Rattle.tta_build.proofs.Excluding.{code_excludes}
use Rattle.tta_build.proofs.laws.code_excludes.Goals as goal

pub returns : goal.returns
returns c = code_excludes
