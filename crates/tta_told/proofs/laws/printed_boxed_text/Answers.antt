use Rattle.tta_told.proofs.PrintedTexts.{printed_boxed_text}
use Rattle.tta_told.proofs.laws.printed_boxed_text.Goals as goal

pub returns : goal.returns
returns c = printed_boxed_text
