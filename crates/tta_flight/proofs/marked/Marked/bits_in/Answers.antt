use Rattle.tta_flight.proofs.BitLemmas.{bit_lacks, bit_among}
use Rattle.std.proofs.Common.{◌%◌}
use Rattle.tta_flight.proofs.marked.Marked.bits_in.Goals as goal

pub returns-clause-none : goal.returns-clause-none
returns-clause-none c = λ k here is off. c.word.ensures k here (bit_lacks c.word.result c.args.among (k % 64) is off)

pub returns-clause-some : goal.returns-clause-some
returns-clause-some c = λ i is. bit_among c.word.result c.args.among i is
