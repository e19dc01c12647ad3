use Rattle.tta_hardware.proofs.Staying.{words_stay}
use Rattle.tta_hardware.proofs.laws.words_stay.Goals as goal

pub returns : goal.returns
returns c = words_stay
