use Rattle.std.proofs.Common.{length}
use Rattle.tta_profile.specs.Cited.{is_halted}
use Rattle.tta_places.proofs.Slots.{possible_slots}
use Rattle.tta_profile.proofs.following.note_carried.Goals as goal

pub push_carried-requires : goal.push_carried-requires
push_carried-requires g c =
    let on = c.args.basis.now in
    let now = c.args.sim.now in
    possible_slots on.m.now c.rules.ensures on.code.now c.requires.loaded.legal (is_halted now.outcome) now.pc (length now.shown)
    _ c.slots_of-slots.result.now c.requires.loaded.units c.coming.ensures.is c.slots_of-slots.ensures
