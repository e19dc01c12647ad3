use Rattle.tta_lower.proofs.SameHomes.{answers_know}
use Rattle.tta_lower.proofs.law.answers_know.Goals as goal

pub returns : goal.returns
returns c = answers_know
