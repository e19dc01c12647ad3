use Rattle.std.proofs.Common.{◌+◌, sym, ap, ◌∙◌, subst}
use Rattle.tta_sim.specs.Cited.{stated}
use Rattle.tta_code.specs.Cycle.{next as next_state}
use Rattle.tta_sim.specs.Held.{Stands, IsRunOf, held_with, cycles_of}
use Rattle.tta_sim.specs.Known.{all_shown}
use Rattle.tta_sim.proofs.Marking.{known_kept}
use Rattle.tta_sim.proofs.Owning.{own_run, own_goes, state_stands, state_run, units_still}
use Rattle.tta_sim.proofs.sim.Sim.cycle.Goals as goal

pub cycle-requires-clause-loaded : goal.cycle-requires-clause-loaded
cycle-requires-clause-loaded g c =
    let run = subst (IsRunOf c.args.m.now c.args.code.now) (sym c.self.view_is) c.requires.loaded in
    state_run c.args.m.now c.args.code.now c.self.inside.state c.self.inside.region run

pub cycle-requires-clause-has_units : goal.cycle-requires-clause-has_units
cycle-requires-clause-has_units g c = (subst (IsRunOf c.args.m.now c.args.code.now) (sym c.self.view_is) c.requires.loaded).has_units

pub returns-clause-loaded : goal.returns-clause-loaded
returns-clause-loaded g c =
    let run = subst (IsRunOf c.args.m.now c.args.code.now) (sym c.self.view_is) c.requires.loaded in
    own_run c.args.m.now c.args.code.now c.cycle.new.self c.cycle.new.region (c.cycle.ensures.kept.units ∙ run.units) c.cycle.ensures.loaded
    (units_still 0 c.args.m.now c.self.inside.region c.cycle.new.region run.has_units c.cycle.ensures.kept)

pub returns-clause-counted : goal.returns-clause-counted
returns-clause-counted g c = c.cycle.ensures.counted ∙ ap (λ h. h.cycle + cycles_of c.cycle.result) c.self.view_is

pub returns-clause-next : goal.returns-clause-next
returns-clause-next g c = λ s same fed.
    let U = stated (λ v. (goal.OpUnit-dyn g v).unit_meaning v.1) c.args.units.now in
    let m = c.args.m.now in
    let code = c.args.code.now in
    let run = subst (IsRunOf m code) (sym c.self.view_is) c.requires.loaded in
    let held = state_stands m code c.self.inside.state c.self.inside.region run.units s (subst (λ h. Stands h s) (sym c.self.view_is) same) in
    own_goes m code c.cycle.new.self c.cycle.new.region (c.cycle.ensures.kept.units ∙ run.units) s (next_state U m code s) c.cycle.result (c.cycle.ensures.next s held fed)

pub returns-clause-answer : goal.returns-clause-answer
returns-clause-answer g c = λ s same fed.
    let m = c.args.m.now in
    let code = c.args.code.now in
    let run = subst (IsRunOf m code) (sym c.self.view_is) c.requires.loaded in
    let held = state_stands m code c.self.inside.state c.self.inside.region run.units s (subst (λ h. Stands h s) (sym c.self.view_is) same) in
    c.cycle.ensures.answer s held fed

pub returns-clause-waits : goal.returns-clause-waits
returns-clause-waits g c = λ is. ap (λ h. held_with h c.cycle.new.region) (c.cycle.ensures.waits is) ∙ ap (held_with c.self.inside.state) (c.cycle.ensures.stays is) ∙ c.self.view_is

pub invariant_of-self : goal.invariant_of-self
invariant_of-self g c =
    let run = subst (IsRunOf c.args.m.now c.args.code.now) (sym c.self.view_is) c.requires.loaded in
    let did = c.cycle.ensures in
    known_kept c.self.inside.state.places c.cycle.new.self.places (all_shown c.self.inside.region) (all_shown c.cycle.new.region) did.words.places did.words.ports
    c.self.inside.state.lines c.cycle.new.self.lines (did.loaded.decoded ∙ sym run.decoded) c.self.inside.rows.items c.self.invariant
