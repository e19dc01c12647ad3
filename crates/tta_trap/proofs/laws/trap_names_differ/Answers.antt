use Rattle.tta_trap.proofs.Naming.{trap_names_differ}
use Rattle.tta_trap.proofs.laws.trap_names_differ.Goals as goal

pub returns : goal.returns
returns c = trap_names_differ
