use Rattle.tta_told.proofs.OneTexts.{one_trap_text}
use Rattle.tta_told.proofs.laws.one_trap_text.Goals as goal

pub returns : goal.returns
returns c = one_trap_text
