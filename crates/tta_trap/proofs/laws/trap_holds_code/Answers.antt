use Rattle.tta_trap.proofs.CodeHeld.{trap_holds_code}
use Rattle.tta_trap.proofs.laws.trap_holds_code.Goals as goal

pub returns : goal.returns
returns c = trap_holds_code
