use Rattle.tta_loadelim.proofs.CopiedWords.{copies_keep}
use Rattle.tta_loadelim.proofs.laws.copies_keep.Goals as goal

pub returns : goal.returns
returns c = copies_keep
