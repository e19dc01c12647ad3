use Rattle.tta_hardware.proofs.Imaged.{image_kept}
use Rattle.tta_hardware.proofs.laws.image_kept.Goals as goal

pub returns : goal.returns
returns c = image_kept
