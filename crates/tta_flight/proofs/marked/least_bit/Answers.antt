use Rattle.tta_flight.proofs.BitLemmas.{least_first, least_is_set}
use Rattle.tta_flight.proofs.marked.least_bit.Goals as goal

pub returns-clause-none : goal.returns-clause-none
returns-clause-none c = λ i below. least_first c.args.word i c.requires c.ranges.word.fits below

pub returns-clause-some : goal.returns-clause-some
returns-clause-some c = least_is_set c.args.word c.requires c.ranges.word.fits
