use Rattle.tta_inspect.proofs.ImageSizes.{image_size}
use Rattle.tta_inspect.proofs.laws.image_size.Goals as goal

pub returns : goal.returns
returns c = image_size
