use Rattle.std.proofs.Common.{◌<◌, ◌/◌, length, rules}
use Rattle.tta_flight.proofs.BitLemmas.{unset_bit}
use Rattle.tta_flight.proofs.marked.Marked.remove.Goals as goal

pub returns : goal.returns
returns c = λ k.
    let below : c.args.unit / 64 < length c.args.self.now.words = search rules in
    unset_bit c.args.self.now.words c.args.unit k c.one_bit.result below c.one_bit.ensures c.one_bit.type_inv
