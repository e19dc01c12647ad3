use Rattle.std.proofs.Common.{◌≡◌, false, true, sym, length, subst}
use Rattle.std.specs.List.{range_with_len, list_any}
use Rattle.tta_sched.specs.Cited.{joins, carried, has_slot}
use Rattle.tta_moves.proofs.Buses.{none_of}
use Rattle.tta_sched.proofs.alone.slot_alone.Goals as goal

pub unreachable-requires : goal.unreachable-requires
unreachable-requires c =
    let none : list_any (λ bus. joins c.args.on.now.machine.now bus (carried c.args.on.now.machine.now c.in-Move.src) c.in-Move.dst c.in-Move.guard) (range_with_len 0 (length c.args.on.now.machine.now.buses)) ≡ false
    = none_of _ (range_with_len 0 (length c.args.on.now.machine.now.buses)) (λ k. rw (sym c.carried.ensures.value) (c.in-None.ensures.none k)) in
    let some = subst (λ x. has_slot c.args.on.now.machine.now x ≡ true) c.in-Move.is c.requires.slot in
    cc
