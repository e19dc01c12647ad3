use Rattle.tta_roundtrip.proofs.Whole.{printed_is_read_holds}
use Rattle.tta_roundtrip.proofs.Back.{texts_read_back, conversions_read_back}
use Rattle.tta_roundtrip.proofs.laws.printed_is_read.Goals as goal

pub returns : goal.returns
returns c = record { texts = texts_read_back; converted = conversions_read_back; readable = printed_is_read_holds }
