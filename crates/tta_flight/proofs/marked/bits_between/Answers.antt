use Rattle.std.proofs.Common.{◌≡◌, ◌+◌, ◌-◌, ◌^◌, ap, ◌∙◌, arith}
use Rattle.tta_flight.proofs.marked.bits_between.Goals as goal

pub returns : goal.returns
returns c =
    let high : c.args.low + (c.args.high - c.args.low) ≡ c.args.high = omega (arith, c.requires.order) in
    c.bits_from.ensures ∙ ap (λ n. 2 ^ n - 2 ^ c.args.low) high
