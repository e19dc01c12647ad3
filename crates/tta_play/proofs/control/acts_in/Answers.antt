use Rattle.std.proofs.Common.{length}
use Rattle.tta_play.specs.Cited.{is_halted}
use Rattle.tta_places.proofs.Slots.{possible_slots}
use Rattle.tta_play.proofs.control.acts_in.Goals as goal

pub first_in-requires : goal.first_in-requires
first_in-requires g c =
    let on = c.args.basis.now in
    let now = c.args.sim.now in
    possible_slots on.m.now c.rules.ensures on.code.now c.requires.loaded.legal (is_halted now.outcome) now.pc (length now.shown)
    _ c.slots_of.result.now c.requires.loaded.units c.coming.ensures.is c.slots_of.ensures
