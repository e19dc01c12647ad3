use Rattle.tta_build.proofs.Completes.{completes_plainly}
use Rattle.tta_build.proofs.laws.build_completes_plainly.Goals as goal

pub returns : goal.returns
returns c = completes_plainly
