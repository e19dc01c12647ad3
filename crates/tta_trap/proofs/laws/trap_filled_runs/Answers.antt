use Rattle.tta_trap.proofs.Filled.{trap_filled_runs}
use Rattle.tta_trap.proofs.laws.trap_filled_runs.Goals as goal

pub returns : goal.returns
returns c = trap_filled_runs
