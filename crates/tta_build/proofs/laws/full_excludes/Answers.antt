use Rattle.tta_build.proofs.Excluding.{full_excludes}
use Rattle.tta_build.proofs.laws.full_excludes.Goals as goal

pub returns : goal.returns
returns c = full_excludes
