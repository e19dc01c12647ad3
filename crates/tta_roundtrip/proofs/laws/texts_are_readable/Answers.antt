use Rattle.tta_roundtrip.proofs.Kept.{converted_is_readable_holds}
use Rattle.tta_roundtrip.proofs.Texts.{texts_are_readable_holds}
use Rattle.tta_roundtrip.proofs.laws.texts_are_readable.Goals as goal

pub returns : goal.returns
returns c = record { texts = texts_are_readable_holds; converted = converted_is_readable_holds }
