use Rattle.std.proofs.Common.{rules}
use Rattle.tta_ops.proofs.comparison.lifted.Goals as goal

pub returns : goal.returns
returns c = search rules
