use Rattle.tta_divider.proofs.Serving.{divider_serves}
use Rattle.tta_divider.proofs.laws.divider_serves.Goals as goal

pub returns : goal.returns
returns c = divider_serves
