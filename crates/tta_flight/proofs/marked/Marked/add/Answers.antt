use Rattle.std.proofs.Common.{◌<◌, ◌/◌, length, rules}
use Rattle.tta_flight.proofs.BitLemmas.{set_bit}
use Rattle.tta_flight.proofs.marked.Marked.add.Goals as goal

pub returns : goal.returns
returns c = λ k.
    let below : c.args.unit / 64 < length c.args.self.now.words = search rules in
    set_bit c.args.self.now.words c.args.unit k c.one_bit.result below c.one_bit.ensures
