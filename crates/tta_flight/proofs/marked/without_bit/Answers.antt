use Rattle.tta_flight.proofs.BitLemmas.{other_bits, this_bit_gone}
use Rattle.tta_flight.proofs.marked.without_bit.Goals as goal

pub returns-clause-others : goal.returns-clause-others
returns-clause-others c = λ i other below. other_bits c.args.word c.one_bit.result c.args.bit i c.one_bit.ensures c.one_bit.type_inv other below

pub returns-clause-none : goal.returns-clause-none
returns-clause-none c = this_bit_gone c.args.word c.one_bit.result c.args.bit c.one_bit.ensures c.one_bit.type_inv c.requires
