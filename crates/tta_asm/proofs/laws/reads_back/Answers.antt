use Rattle.tta_asm.proofs.ShownText.{canonical_assembled}
use Rattle.tta_asm.proofs.ShownOnce.{canonical_once}
use Rattle.tta_asm.proofs.laws.reads_back.Goals as goal

pub returns : goal.returns
returns c = record { back = canonical_assembled; one = canonical_once }
