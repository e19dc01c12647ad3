use Rattle.std.proofs.Common.{ℕ, ◌++◌, ◌-◌, ◌/◌, ◌^◌, Bool, ap, sym, ◌∙◌}
use Rattle.tta_image.specs.Bits.{bits_of}
use Rattle.tta_image.specs.Fields.{bus_field}
use Rattle.tta_image.proofs.BitLemmas.{take_left}
use Rattle.tta_image.proofs.fields.push_bus.Goals as goal

pub returns-in_ok-push_number-clause-bits : goal.returns-in_ok-push_number-clause-bits
returns-in_ok-push_number-clause-bits c =
    let f = c.args.bus.now.fields.now in let left = c.args.left in
    let number = c.without_low.ensures ∙ ap (λ (n : ℕ). n / 2 ^ (left - f.width)) c.from.ensures in
    c.in_ok-push_number.ensures.ok
    ∙ ap (λ (n : ℕ). c.args.sink.now ++ bits_of f.width n) number
    ∙ ap (λ l. c.args.sink.now ++ l) (sym (take_left f.width left c.args.value (c.requires.taken c.if-is_taken.true)))
    ∙ ap (λ (b : Bool). c.args.sink.now ++ bus_field f b left c.args.value c.args.slot) (sym c.if-is_taken.true)
