use Rattle.tta_told.proofs.OneTexts.{one_boxed_text}
use Rattle.tta_told.proofs.laws.one_boxed_text.Goals as goal

pub returns : goal.returns
returns c = one_boxed_text
