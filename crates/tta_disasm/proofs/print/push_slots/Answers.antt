use Rattle.tta_disasm.specs.Cited.{stated}
use Rattle.tta_disasm.proofs.SlotTexts.{slots_done}
use Rattle.tta_disasm.proofs.print.push_slots.Goals as goal

pub returns : goal.returns
returns g c =
    let U = stated (λ v. (goal.OpUnit-dyn g v).unit_meaning v.1) c.args.units.now in
    slots_done U c.args.m.now c.args.slots.now c.args.out.now.items c.push_slot.new.out.items c.push_more_slots.new.out.items
    c.in-len1-up.len_at_least c.in_ok-push_slot.ensures c.in_ok-push_more_slots.ensures
