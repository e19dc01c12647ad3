use Rattle.tta_realised.proofs.Doing.{image_does}
use Rattle.tta_realised.proofs.laws.image_does.Goals as goal

pub returns : goal.returns
returns c = image_does
