use Rattle.tta_hardware.proofs.Pins.{pins_serve}
use Rattle.tta_hardware.proofs.laws.pins_serve.Goals as goal

pub returns : goal.returns
returns c = pins_serve
