use Rattle.tta_image.proofs.Packing.{has_image}
use Rattle.tta_image.proofs.Unique.{has_one_image}
use Rattle.tta_image.proofs.laws.one_image.Goals as goal

pub returns-clause-some : goal.returns-clause-some
returns-clause-some c = has_image

pub returns-clause-one : goal.returns-clause-one
returns-clause-one c = has_one_image
