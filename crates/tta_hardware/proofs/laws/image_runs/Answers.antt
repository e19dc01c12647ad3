use Rattle.tta_hardware.proofs.Imaging.{image_runs}
use Rattle.tta_hardware.proofs.laws.image_runs.Goals as goal

pub returns : goal.returns
returns c = image_runs
