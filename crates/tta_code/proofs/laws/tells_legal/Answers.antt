use Rattle.tta_code.proofs.Walk.{tells_legal}
use Rattle.tta_code.proofs.laws.tells_legal.Goals as goal

pub returns : goal.returns
returns c = tells_legal
