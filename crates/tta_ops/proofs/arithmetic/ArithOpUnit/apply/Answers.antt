use Rattle.std.proofs.Common.{rules}
use Rattle.tta_ops.proofs.arithmetic.ArithOpUnit.apply.Goals as goal

pub returns-in-3-clause-value : goal.returns-in-3-clause-value
returns-in-3-clause-value c = search rules
