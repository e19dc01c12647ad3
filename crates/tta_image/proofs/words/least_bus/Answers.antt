use Rattle.std.proofs.Common.{◌≤◌, length, sym, ap, ◌∙◌, arith}
use Rattle.tta_image.specs.Cited.{Machine}
use Rattle.tta_image.proofs.BitsAt.{least_is}
use Rattle.tta_image.proofs.words.least_bus.Goals as goal

pub returns-then-has_bus : goal.returns-then-has_bus
returns-then-has_bus c =
    let many = c.len-buses.ensures ∙ ap (λ (m : Machine). length m.buses) c.m.view_is in
    let inside : c.loop-bus.bus ≤ length c.args.m.now.buses = omega arith in
    least_is c.args.taken (length c.args.m.now.buses) c.loop-bus.bus inside c.loop-bus.invariant (λ lt. sym c.has_bus.ensures ∙ c.if-has_bus.true)

pub returns : goal.returns
returns c =
    let many = c.len-buses.ensures ∙ ap (λ (m : Machine). length m.buses) c.m.view_is in
    many ∙ least_is c.args.taken (length c.args.m.now.buses) (length c.args.m.now.buses) (omega arith) (λ k lt. c.loop-bus.invariant k (omega arith)) (λ lt. absurd (omega arith))
