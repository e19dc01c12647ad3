use Rattle.std.proofs.Common.{◌++◌, Bool, List, ap}
use Rattle.tta_image.proofs.BitParts.{bits_of-zero}
use Rattle.tta_image.proofs.sink.BitSink.push_zeros.Goals as goal

pub returns : goal.returns
returns c = rw (ap (λ (l : List Bool). c.args.self.now ++ l) (bits_of-zero c.args.count)) at c.push_number.ensures
