use Rattle.tta_trap.proofs.Imaging.{trap_image_runs}
use Rattle.tta_trap.proofs.Onward.{knows_on}
use Rattle.tta_trap.proofs.Telling.{tells_faults}
use Rattle.tta_trap.proofs.laws.trap_image_runs.Goals as goal

pub returns : goal.returns
returns c = trap_image_runs tells_faults knows_on
