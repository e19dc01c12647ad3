use Rattle.tta_serial.proofs.Serial.{serial_direct_agrees}
use Rattle.tta_serial.proofs.laws.serial_direct_agrees.Goals as goal

pub returns : goal.returns
returns c = serial_direct_agrees
