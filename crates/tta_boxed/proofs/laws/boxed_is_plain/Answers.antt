use Rattle.tta_boxed.proofs.Plain.{boxed_is_plain}
use Rattle.tta_boxed.proofs.laws.boxed_is_plain.Goals as goal

pub returns : goal.returns
returns c = boxed_is_plain
