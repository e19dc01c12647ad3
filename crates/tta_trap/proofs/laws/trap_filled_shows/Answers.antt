use Rattle.tta_trap.proofs.Imaging.{trap_filled_shows}
use Rattle.tta_trap.proofs.Onward.{knows_on}
use Rattle.tta_trap.proofs.Telling.{tells_faults}
use Rattle.tta_trap.proofs.laws.trap_filled_shows.Goals as goal

pub returns : goal.returns
returns c = trap_filled_shows tells_faults knows_on
