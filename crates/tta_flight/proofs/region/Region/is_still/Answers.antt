use Rattle.std.proofs.Common.{◌≡◌, ◌/◌, ◌%◌, arith}
use Rattle.tta_flight.proofs.BitLemmas.{no_bit}
use Rattle.tta_flight.proofs.Come.{all_bits}
use Rattle.tta_flight.proofs.region.Region.is_still.Goals as goal

pub returns : goal.returns
returns c = λ is unit past there.
    let low : unit / 64 ≡ 0 = omega (arith, there, c.requires) in
    c.word.ensures.none unit past there low (all_bits (unit % 64) (omega arith)) (no_bit c.word.result (unit % 64) (grind (arith, is)))
