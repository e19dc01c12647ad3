use Rattle.tta_divider.proofs.Saying.{divider_is_said}
use Rattle.tta_divider.proofs.laws.divider_is_said.Goals as goal

pub returns : goal.returns
returns c = divider_is_said
