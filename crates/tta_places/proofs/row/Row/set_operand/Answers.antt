use Rattle.std.proofs.Common.{◌+◌, sym, ap}
use Rattle.tta_places.specs.Cited.{KeptOperand}
use Rattle.tta_places.proofs.row.Row.set_operand.Goals as goal

pub returns : goal.returns
returns c = λ written had. c.set.ensures (KeptOperand c.args.unit) written c.requires (sym (ap (λ n. 576 + n) c.from.ensures)) had
