use Rattle.std.proofs.Common.{◌≡◌, ◌≤◌, ◌+◌, ◌-◌, ◌^◌, ℕ, ap, ◌∙◌, arith}
use Rattle.tta_flight.proofs.BitLemmas.{one_to_many}
use Rattle.tta_flight.proofs.marked.bits_from.Goals as goal

pub returns : goal.returns
returns c =
    let high : ℕ = c.args.low + c.args.count in
    let order : c.args.low ≤ high = omega arith in
    let count : c.args.count ≡ high - c.args.low = omega arith in
    one_to_many c.args.low high c.one_bit.result order c.requires.last (c.one_bit.ensures ∙ ap (λ n. 2 ^ n) count)
