use Rattle.std.proofs.Common.{rules}
use Rattle.tta_ops.proofs.table.OperationTable.add_from.Goals as goal

pub add-requires-clause-fresh : goal.add-requires-clause-fresh
add-requires-clause-fresh g c = search rules

pub returns-clause-refusal : goal.returns-clause-refusal
returns-clause-refusal g c = search rules
