use Rattle.tta_divider.proofs.Serving.{divides_at_once}
use Rattle.tta_divider.proofs.laws.divides_at_once.Goals as goal

pub returns : goal.returns
returns c = divides_at_once
