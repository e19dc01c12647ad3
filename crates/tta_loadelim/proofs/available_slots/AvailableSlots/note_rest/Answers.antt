use Rattle.std.proofs.Common.{◌≡◌, true, get_or, refl}
use Rattle.std.specs.Prelude.{filter}
use Rattle.tta_arch.specs.declared.ends.Source.TheVariants as source
use Rattle.tta_loadelim.specs.declared.facts.Fact.{Fact}
use Rattle.tta_loadelim.specs.AvailableSlots.{known, stays}
use Rattle.tta_loadelim.specs.Facts.{is_among, are_among}
use Rattle.tta_loadelim.proofs.Among.{among_in, among_at, among_filter}
use Rattle.tta_loadelim.proofs.available_slots.AvailableSlots.note_rest.Goals as goal

pub loop-f-preserved : goal.loop-f-preserved
loop-f-preserved c before all knows old kept =
    let f : Fact = get_or c.as_slice-f-items.result.now c.loop-f.f-index (record { slot = 0; from = source.Reg 0 0 }) in
    let facts : are_among (known c.args.m.now before) c.as_slice-f-items.result.now ≡ true = rw c.as_slice-f-items.ensures.value knows.facts in
    let among : is_among (known c.args.m.now before) f ≡ true = among_at (known c.args.m.now before) c.as_slice-f-items.result.now c.loop-f.f-index _ f facts c.loop-f-test.true refl in
    let next = among_filter (stays c.args.m.now before c.args.x) (known c.args.m.now before) f among (c.stays.ensures c.args.m.now before c.args.x (c.change-c.ensures before knows) c.if-not-stays.false) in
    c.note.ensures all (c.loop-f.invariant before all knows old kept) (among_in all (filter (stays c.args.m.now before c.args.x) (known c.args.m.now before)) f kept next)
