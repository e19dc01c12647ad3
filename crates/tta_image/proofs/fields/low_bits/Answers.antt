use Rattle.std.proofs.Common.{sym}
use Rattle.tta_image.proofs.BitLemmas.{low_whole}
use Rattle.tta_image.proofs.fields.low_bits.Goals as goal

pub returns-else-count-lt-BITS : goal.returns-else-count-lt-BITS
returns-else-count-lt-BITS c = sym (low_whole c.args.number 64 c.args.count c.ranges.number.fits c.if-count-lt-BITS.false)
