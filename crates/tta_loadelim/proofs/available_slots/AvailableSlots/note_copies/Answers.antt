use Rattle.std.proofs.Common.{◌≡◌, true, get_or, sym, refl, ◌∙◌}
use Rattle.tta_arch.specs.declared.ends.Source.TheVariants as source
use Rattle.tta_loadelim.specs.declared.facts.Fact.{Fact}
use Rattle.tta_loadelim.specs.AvailableSlots.{fact, known, by_copy}
use Rattle.tta_loadelim.specs.Facts.{is_among, are_among}
use Rattle.tta_loadelim.proofs.Among.{among_in, among_at}
use Rattle.tta_loadelim.proofs.Noting.{copies_among}
use Rattle.tta_loadelim.proofs.available_slots.AvailableSlots.note_copies.Goals as goal

pub loop-f-preserved : goal.loop-f-preserved
loop-f-preserved c before all knows old copies =
    let f : Fact = get_or c.as_slice-f-items.result.now c.loop-f.f-index (record { slot = 0; from = source.Reg 0 0 }) in
    let facts : are_among (known c.args.m.now before) c.as_slice-f-items.result.now ≡ true = rw c.as_slice-f-items.ensures.value knows.facts in
    let among : is_among (known c.args.m.now before) f ≡ true = among_at (known c.args.m.now before) c.as_slice-f-items.result.now c.loop-f.f-index _ f facts c.loop-f-test.true refl in
    let next = copies_among c.args.m.now (known c.args.m.now before) c.args.x c.in-Some.src c.in-Some-register_in.reg f (sym c.in-Some.ensures) c.in-Some-register_in.ensures among (sym c.same_end.ensures ∙ c.if-not-same_end.false) in
    c.note.ensures all (c.loop-f.invariant before all knows old copies) (among_in all (by_copy c.args.m.now (known c.args.m.now before) c.args.x) (fact f.slot c.in-Some-register_in.reg) copies next)
