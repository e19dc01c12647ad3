use Rattle.tta_cost.proofs.DepthLaws.{depths_are}
use Rattle.tta_cost.proofs.text.depths_are.Goals as goal

pub returns : goal.returns
returns c = depths_are
