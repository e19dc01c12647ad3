use Rattle.tta_inspect.specs.Costs.{IsCostText}
use Rattle.tta_inspect.proofs.TextsByStatus.{text_by_status}
use Rattle.tta_inspect.proofs.laws.cost_by_status.Goals as goal

pub returns : goal.returns
returns c = λ u M F before after old new s. text_by_status u (IsCostText u) M F before after old new s
