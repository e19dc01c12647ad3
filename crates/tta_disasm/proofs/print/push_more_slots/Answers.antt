use Rattle.std.proofs.Common.{None, get_or, refl}
use Rattle.tta_disasm.specs.Cited.{stated}
use Rattle.tta_disasm.specs.Printing.{later_slot_text}
use Rattle.tta_disasm.proofs.SlotTexts.{text_more}
use Rattle.tta_disasm.proofs.print.push_more_slots.Goals as goal

pub loop-slot-preserved : goal.loop-slot-preserved
loop-slot-preserved g c =
    let U = stated (λ v. (goal.OpUnit-dyn g v).unit_meaning v.1) c.args.units.now in
    text_more (later_slot_text U c.args.m.now) c.args.slots.now c.loop-slot.slot-index None (get_or c.args.slots.now c.loop-slot.slot-index None) c.args.out.now.items c.loop-slot.out.items
    c.push_later_slot.new.out.items c.loop-slot-test.true refl c.in_ok-push_later_slot.ensures c.loop-slot.invariant
