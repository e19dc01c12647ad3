use Rattle.std.proofs.Common.{◌≡◌, ◌++◌, take}
use Rattle.std.specs.List.{flat_map}
use Rattle.tta_disasm.specs.Cited.{stated}
use Rattle.tta_disasm.specs.Printing.{later_slot_text}
use Rattle.tta_disasm.proofs.print.push_more_slots.Given as goal

abbrev pub invariant-loop-slot : goal.invariant-loop-slot
invariant-loop-slot g l =
    let U = stated (λ v. (goal.OpUnit-dyn g v).unit_meaning v.1) l.units in
    l.out.items ≡ l.initial.out.items ++ flat_map (later_slot_text U l.m) (take l.slot-index l.slots)
