use Rattle.std.proofs.Common.{ℕ, List, ◌++◌, length, IsTrue, sym, ap, ◌∙◌, subst}
use Rattle.std.specs.Prelude.{map}
use Rattle.std.specs.List.{AllByRecursion}
use Rattle.tta_waves.specs.Cited.{Machine, IsMachine, is_halted, carried, slots_of}
use Rattle.tta_waves.specs.declared.signal.Signal.{Signal}
use Rattle.tta_waves.specs.Levels.{level_in}
use Rattle.tta_waves.specs.Told.{is_told}
use Rattle.tta_places.proofs.Slots.{possible_slots}
use Rattle.tta_waves.proofs.Slots.{levels_are}
use Rattle.tta_waves.proofs.Told.{all_told}
use Rattle.tta_waves.proofs.cycling.levels_of.Goals as goal

pub push_carried-requires : goal.push_carried-requires
push_carried-requires g c =
    let on = c.args.basis.now in
    let now = c.args.sim.now in
    possible_slots on.m.now (subst IsMachine c.m.view_is c.m.invariant) on.code.now c.requires.loaded.legal (is_halted now.outcome) now.pc (length now.shown)
    _ c.slots_of-slots.result.now c.requires.loaded.units c.coming.ensures.is c.slots_of-slots.ensures

pub push_levels-requires-clause-possible : goal.push_levels-requires-clause-possible
push_levels-requires-clause-possible g c =
    let on = c.args.basis.now in
    let now = c.args.sim.now in
    possible_slots on.m.now (subst IsMachine c.m.view_is c.m.invariant) on.code.now c.requires.loaded.legal (is_halted now.outcome) now.pc c.len-units.result
    _ c.slots_of-slots.result.now (c.len-units.ensures ∙ ap (λ (m : Machine). length m.units) c.m.view_is) c.coming.ensures.is c.slots_of-slots.ensures

pub push_levels-requires-clause-told : goal.push_levels-requires-clause-told
push_levels-requires-clause-told g c =
    let m = c.args.basis.now.m.now in
    let units = c.len-units.ensures ∙ ap (λ (m : Machine). length m.units) c.m.view_is in
    subst (λ (n : ℕ). AllByRecursion (λ (s : Signal). IsTrue (is_told n s)) c.as_slice-2.result.now) (sym units)
    (subst (λ (l : List Signal). AllByRecursion (λ (s : Signal). IsTrue (is_told (length m.units) s)) l) (sym (c.as_slice-2.ensures.value ∙ c.requires.signals))
    (all_told m (subst IsMachine c.m.view_is c.m.invariant)))

pub returns-clause-levels : goal.returns-clause-levels
returns-clause-levels g c = λ s stands had.
    let m = c.args.basis.now.m.now in
    let slots = c.slots_of-slots.result.now in
    let signals = c.as_slice-2.result.now in
    let carries = c.as_slice.ensures.value ∙ c.in_ok-push_carried.ensures s stands had ∙ ap (λ l. l ++ map (carried s) slots) c.clear.ensures.items in
    let put = c.in_ok-push_levels.ensures s stands had carries ∙ ap (λ l. l ++ map (level_in m s slots) signals) c.new-levels.ensures.items in
    levels_are m c.args.basis.now.code.now.words s slots signals _ (c.slots_of-slots.ensures ∙ ap slots_of (c.coming.ensures.comes s stands))
    (c.as_slice-2.ensures.value ∙ c.requires.signals) put
