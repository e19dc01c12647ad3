use Rattle.std.proofs.Common.{◌≡◌, ◌+◌, ◌-◌, ◌*◌, ◌/◌, ◌%◌, ℕ, min, arith}
use Rattle.tta_flight.proofs.BitLemmas.{between}
use Rattle.tta_flight.proofs.marked.bits_of_units.Goals as goal

pub returns : goal.returns
returns c = λ k here.
    let from : ℕ = c.args.from in
    let low : from % 64 ≡ from - 64 * (from / 64) = omega arith in
    let sum : from + c.args.count - 64 * (from / 64) ≡ from % 64 + c.args.count = omega arith in
    let high : from % 64 + c.args.count ≡ min (from + c.args.count - 64 * (from / 64)) 64 = grind (arith, sum, c.requires) in
    between (from / 64) from (from + c.args.count) k (from % 64) (from % 64 + c.args.count) c.bits_from.result c.bits_from.ensures low high here
