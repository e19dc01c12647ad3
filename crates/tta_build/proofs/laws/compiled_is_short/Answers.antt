use Rattle.tta_build.proofs.NoLonger.{compiled_is_short}
use Rattle.tta_build.proofs.laws.compiled_is_short.Goals as goal

pub returns : goal.returns
returns c = compiled_is_short
