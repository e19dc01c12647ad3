use Rattle.tta_rtl.proofs.Filled.{is_full}
use Rattle.tta_rtl.proofs.laws.file_is_full.Goals as goal

pub returns : goal.returns
returns c = is_full
