use Rattle.tta_inspect.specs.Circuits.{IsCircuitText}
use Rattle.tta_inspect.proofs.TextsByStatus.{text_by_status}
use Rattle.tta_inspect.proofs.laws.circuit_by_status.Goals as goal

pub returns : goal.returns
returns c = λ u view M F before after old new s. text_by_status u (IsCircuitText u view) M F before after old new s
