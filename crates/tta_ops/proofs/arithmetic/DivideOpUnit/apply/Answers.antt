use Rattle.std.proofs.Common.{rules}
use Rattle.tta_ops.proofs.arithmetic.DivideOpUnit.apply.Goals as goal

pub returns-in-0-clause-value : goal.returns-in-0-clause-value
returns-in-0-clause-value c = search rules
