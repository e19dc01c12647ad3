use Rattle.std.proofs.Common.{rules}
use Rattle.tta_tacrun.proofs.carry.end_call.Goals as goal

pub returns-clause-returned : goal.returns-clause-returned
returns-clause-returned c = search rules
