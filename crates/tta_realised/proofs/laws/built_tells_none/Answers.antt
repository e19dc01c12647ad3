use Rattle.tta_realised.proofs.Faultless.{built_tells_none}
use Rattle.tta_realised.proofs.laws.built_tells_none.Goals as goal

pub returns : goal.returns
returns c = built_tells_none
