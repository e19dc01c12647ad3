use Rattle.std.proofs.Common.{sym}
use Rattle.tta_arch.proofs.Widths.{no_high}
use Rattle.tta_image.proofs.sink.without_low.Goals as goal

pub returns-else-count-lt-BITS : goal.returns-else-count-lt-BITS
returns-else-count-lt-BITS c = sym (no_high c.args.number 64 c.args.count c.ranges.number.fits c.if-count-lt-BITS.false)
