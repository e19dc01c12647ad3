use Rattle.tta_trap.proofs.Onward.{knows_on}
use Rattle.tta_trap.proofs.Pins.{trap_pins_serve}
use Rattle.tta_trap.proofs.Telling.{tells_faults}
use Rattle.tta_trap.proofs.laws.trap_pins_serve.Goals as goal

pub returns : goal.returns
returns c = trap_pins_serve tells_faults knows_on
