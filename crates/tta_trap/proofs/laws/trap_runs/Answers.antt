use Rattle.tta_trap.proofs.Onward.{knows_on}
use Rattle.tta_trap.proofs.Stopped.{trap_runs}
use Rattle.tta_trap.proofs.Telling.{tells_faults}
use Rattle.tta_trap.proofs.laws.trap_runs.Goals as goal

pub returns : goal.returns
returns c = trap_runs tells_faults knows_on
