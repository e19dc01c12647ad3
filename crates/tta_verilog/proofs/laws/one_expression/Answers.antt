use Rattle.tta_verilog.proofs.OneExpressions.{one_expression}
use Rattle.tta_verilog.proofs.laws.one_expression.Goals as goal

pub returns : goal.returns
returns g c = one_expression _ _
