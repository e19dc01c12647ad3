use Rattle.std.proofs.Common.{true, false, sym, ◌∙◌}
use Rattle.tta_places.proofs.Lists.{any_on}
use Rattle.tta_profile.specs.Outside.{is_outside}
use Rattle.tta_profile.proofs.Accesses.{slot_found}
use Rattle.tta_profile.proofs.outside.is_any_outside.Goals as goal

pub returns-then-is_past : goal.returns-then-is_past
returns-then-is_past c = λ s after are had size.
    let at = c.args.at.now in
    any_on (is_outside at.m.now at.space after s) c.args.slots.now c.loop-bus.bus _ true c.loop-bus-test.true
    (slot_found at.m.now at.space after s c.args.slots.now c.args.words.now c.loop-bus.bus _ at.count c.word_of.result c.slot_address.result true c.loop-bus-test.true are size
    c.word_of.ensures (c.slot_address.ensures after had) (sym c.if-is_past.true ∙ c.is_past.ensures)) (c.loop-bus.invariant s after are had size)

pub loop-bus-preserved : goal.loop-bus-preserved
loop-bus-preserved c = λ s after are had size.
    let at = c.args.at.now in
    any_on (is_outside at.m.now at.space after s) c.args.slots.now c.loop-bus.bus _ false c.loop-bus-test.true
    (slot_found at.m.now at.space after s c.args.slots.now c.args.words.now c.loop-bus.bus _ at.count c.word_of.result c.slot_address.result false c.loop-bus-test.true are size
    c.word_of.ensures (c.slot_address.ensures after had) (sym c.if-is_past.false ∙ c.is_past.ensures)) (c.loop-bus.invariant s after are had size)
