use Rattle.std.proofs.Common.{refl}
use Rattle.tta_text.specs.Tokens.{tokens_of}
use Rattle.tta_text.proofs.scanning.Scanner.new.Goals as goal

pub returns : goal.returns
unfolding tokens_of
returns c = refl
