use Rattle.tta_image.proofs.OneCode.{has_one_code}
use Rattle.tta_image.proofs.laws.one_code.Goals as goal

pub returns : goal.returns
returns c = has_one_code
