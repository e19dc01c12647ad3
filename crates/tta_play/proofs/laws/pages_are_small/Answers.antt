use Rattle.tta_play.proofs.Small.{pages_are_small}
use Rattle.tta_play.proofs.laws.pages_are_small.Goals as goal

pub returns : goal.returns
returns c = pages_are_small
