use Rattle.tta_compiler_laws.proofs.Once.{one_slots}
use Rattle.tta_compiler_laws.proofs.laws.one_slots.Goals as goal

pub returns : goal.returns
returns c = one_slots
