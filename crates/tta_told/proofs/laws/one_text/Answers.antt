use Rattle.tta_told.proofs.OneTexts.{one_text}
use Rattle.tta_told.proofs.laws.one_text.Goals as goal

pub returns : goal.returns
returns c = one_text
