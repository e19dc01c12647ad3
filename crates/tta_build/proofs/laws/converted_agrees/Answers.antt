use Rattle.tta_build.proofs.ConvertedAgrees.{converted_agrees_holds}
use Rattle.tta_build.proofs.laws.converted_agrees.Goals as goal

pub returns : goal.returns
returns c = converted_agrees_holds
