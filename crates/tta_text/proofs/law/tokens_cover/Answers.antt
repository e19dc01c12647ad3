use Rattle.tta_text.proofs.Covering.{tokens_of-covers}
use Rattle.tta_text.proofs.OneReading.{Covers-one}
use Rattle.tta_text.proofs.law.tokens_cover.Goals as goal

pub returns : goal.returns
returns c = record { cover = tokens_of-covers; only = Covers-one }
