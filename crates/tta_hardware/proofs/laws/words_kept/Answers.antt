use Rattle.tta_hardware.proofs.Kept.{words_kept}
use Rattle.tta_hardware.proofs.laws.words_kept.Goals as goal

pub returns : goal.returns
returns c = words_kept
