use Rattle.tta_compiler_laws.proofs.Planning.{lists_planned}
use Rattle.tta_compiler_laws.proofs.laws.lists_planned.Goals as goal

pub returns : goal.returns
returns c = lists_planned
