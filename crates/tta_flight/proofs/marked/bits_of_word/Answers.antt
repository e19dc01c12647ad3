use Rattle.tta_flight.proofs.BitLemmas.{between}
use Rattle.tta_flight.proofs.marked.bits_of_word.Goals as goal

pub returns : goal.returns
returns c = λ k here.
    between c.args.number c.args.from c.args.end k c.saturating_sub-low.result c.min-high.result c.bits_between.result c.bits_between.ensures
    c.saturating_sub-low.ensures c.min-high.ensures here
