use Rattle.tta_trap.proofs.Telling.{tells_faults}
use Rattle.tta_trap.proofs.laws.tells_faults.Goals as goal

pub returns : goal.returns
returns c = tells_faults
