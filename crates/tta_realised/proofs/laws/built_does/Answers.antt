use Rattle.tta_realised.proofs.Doing.{built_does}
use Rattle.tta_realised.proofs.laws.built_does.Goals as goal

pub returns : goal.returns
returns c = built_does
