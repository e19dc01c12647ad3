use Rattle.tta_trap.proofs.Closing.{trap_is_closed}
use Rattle.tta_trap.proofs.laws.trap_is_closed.Goals as goal

pub returns : goal.returns
returns c = trap_is_closed
