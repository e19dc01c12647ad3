use Rattle.tta_build.proofs.Completes.{completes}
use Rattle.tta_build.proofs.laws.build_completes.Goals as goal

pub returns : goal.returns
returns c = completes
