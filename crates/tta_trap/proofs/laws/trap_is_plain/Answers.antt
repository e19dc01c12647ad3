use Rattle.tta_trap.proofs.Widths.{trap_is_plain}
use Rattle.tta_trap.proofs.laws.trap_is_plain.Goals as goal

pub returns : goal.returns
returns c = trap_is_plain
