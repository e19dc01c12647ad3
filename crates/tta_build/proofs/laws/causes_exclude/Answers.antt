use Rattle.tta_build.proofs.Excluding.{causes_exclude}
use Rattle.tta_build.proofs.laws.causes_exclude.Goals as goal

pub returns : goal.returns
returns c = causes_exclude
