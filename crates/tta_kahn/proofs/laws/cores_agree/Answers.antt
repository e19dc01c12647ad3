use Rattle.tta_kahn.proofs.Pairs.{cores_agree}
use Rattle.tta_kahn.proofs.laws.cores_agree.Goals as goal

pub returns : goal.returns
returns c = cores_agree
