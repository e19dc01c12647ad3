use Rattle.std.proofs.Common.{sym, ◌∙◌, subst}
use Rattle.tta_sim.specs.Held.{Stands, IsRunOf}
use Rattle.tta_sim.specs.Known.{all_shown}
use Rattle.tta_sim.proofs.Marking.{known_kept}
use Rattle.tta_sim.proofs.Owning.{own_run, own_stands, state_stands, state_run, units_still}
use Rattle.tta_sim.proofs.sim.Sim.cycle_pure.Goals as goal

pub cycle_pure-requires-clause-loaded : goal.cycle_pure-requires-clause-loaded
cycle_pure-requires-clause-loaded g c =
    let run = subst (IsRunOf c.args.m.now c.args.code.now) (sym c.self.view_is) c.requires.loaded in
    state_run c.args.m.now c.args.code.now c.self.inside.state c.self.inside.region run

pub cycle_pure-requires-clause-has_units : goal.cycle_pure-requires-clause-has_units
cycle_pure-requires-clause-has_units g c = (subst (IsRunOf c.args.m.now c.args.code.now) (sym c.self.view_is) c.requires.loaded).has_units

pub returns-clause-loaded : goal.returns-clause-loaded
returns-clause-loaded g c =
    let run = subst (IsRunOf c.args.m.now c.args.code.now) (sym c.self.view_is) c.requires.loaded in
    own_run c.args.m.now c.args.code.now c.cycle_pure.new.self c.cycle_pure.new.region (c.cycle_pure.ensures.kept.units ∙ run.units) c.cycle_pure.ensures.loaded
    (units_still 0 c.args.m.now c.self.inside.region c.cycle_pure.new.region run.has_units c.cycle_pure.ensures.kept)

pub returns-clause-next : goal.returns-clause-next
returns-clause-next g c = λ s same.
    let m = c.args.m.now in
    let code = c.args.code.now in
    let run = subst (IsRunOf m code) (sym c.self.view_is) c.requires.loaded in
    let held = state_stands m code c.self.inside.state c.self.inside.region run.units s (subst (λ h. Stands h s) (sym c.self.view_is) same) in
    let pure = c.cycle_pure.ensures.next s held in
    record {
      stands = own_stands m code c.cycle_pure.new.self c.cycle_pure.new.region (c.cycle_pure.ensures.kept.units ∙ run.units) _ pure.stands;
      output = pure.output;
      rest = pure.rest;
    }

pub invariant_of-self : goal.invariant_of-self
invariant_of-self g c =
    let run = subst (IsRunOf c.args.m.now c.args.code.now) (sym c.self.view_is) c.requires.loaded in
    let did = c.cycle_pure.ensures in
    known_kept c.self.inside.state.places c.cycle_pure.new.self.places (all_shown c.self.inside.region) (all_shown c.cycle_pure.new.region) did.words.places did.words.ports
    c.self.inside.state.lines c.cycle_pure.new.self.lines (did.loaded.decoded ∙ sym run.decoded) c.self.inside.rows.items c.self.invariant
