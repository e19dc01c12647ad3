use Rattle.tta_hardware.proofs.Pins.{streams_apart}
use Rattle.tta_hardware.proofs.laws.streams_apart.Goals as goal

pub returns : goal.returns
returns c = streams_apart
