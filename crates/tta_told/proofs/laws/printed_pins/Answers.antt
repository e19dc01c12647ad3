use Rattle.tta_told.proofs.PrintedPins.{printed_pins}
use Rattle.tta_told.proofs.laws.printed_pins.Goals as goal

pub returns : goal.returns
returns c = printed_pins
