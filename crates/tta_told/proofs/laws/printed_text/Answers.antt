use Rattle.tta_told.proofs.PrintedTexts.{printed_text}
use Rattle.tta_told.proofs.laws.printed_text.Goals as goal

pub returns : goal.returns
returns c = printed_text
