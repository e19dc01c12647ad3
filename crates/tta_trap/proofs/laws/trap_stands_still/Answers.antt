use Rattle.tta_trap.proofs.Onward.{knows_on}
use Rattle.tta_trap.proofs.Stopped.{trap_stands_still}
use Rattle.tta_trap.proofs.Telling.{tells_faults}
use Rattle.tta_trap.proofs.laws.trap_stands_still.Goals as goal

pub returns : goal.returns
returns c = trap_stands_still tells_faults knows_on
