use Rattle.std.proofs.Common.{◌<◌, length, rules}
use Rattle.tta_flight.proofs.BitLemmas.{bits_removed}
use Rattle.tta_flight.proofs.marked.Marked.remove_bits.Goals as goal

pub returns : goal.returns
returns c = λ k.
    let below : c.args.number < length c.args.self.now.words = search rules in
    bits_removed c.args.self.now.words c.args.number k c.args.among below c.ranges.among.fits
