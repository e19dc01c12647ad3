use Rattle.std.proofs.Common.{refl}
use Rattle.tta_places.specs.Cited.{KeptRa}
use Rattle.tta_places.proofs.row.Row.set_return_address.Goals as goal

pub returns : goal.returns
returns c = λ written had. c.set.ensures KeptRa written refl refl had
