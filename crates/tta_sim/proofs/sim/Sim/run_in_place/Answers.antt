use Rattle.std.proofs.Common.{sym, subst}
use Rattle.tta_sim.specs.Held.{Stands, IsRunOf}
use Rattle.tta_sim.specs.Known.{all_shown, AreKnown}
use Rattle.tta_sim.proofs.Owning.{own_run, own_stands, state_stands, state_run}
use Rattle.tta_sim.proofs.sim.Sim.run_in_place.Goals as goal

pub run_in_place-requires-clause-rows : goal.run_in_place-requires-clause-rows
run_in_place-requires-clause-rows g c =
    let run = subst (IsRunOf c.args.m.now c.args.code.now) (sym c.self.view_is) c.requires.loaded in
    record {
      loaded = state_run c.args.m.now c.args.code.now c.self.inside.state c.self.inside.region run;
      has_units = run.has_units;
      own = run.units;
      known = subst (λ rows. AreKnown c.self.inside.state.places (all_shown c.self.inside.region) c.self.inside.state.lines rows) (sym c.as_slice.ensures.value) c.self.invariant;
    }

pub returns-clause-loaded : goal.returns-clause-loaded
returns-clause-loaded g c =
    let rows = c.run_in_place.ensures.rows in
    own_run c.args.m.now c.args.code.now c.run_in_place.new.self c.run_in_place.new.region rows.own rows.loaded rows.has_units

pub returns-clause-next : goal.returns-clause-next
returns-clause-next g c = λ s same.
    let m = c.args.m.now in
    let code = c.args.code.now in
    let run = subst (IsRunOf m code) (sym c.self.view_is) c.requires.loaded in
    let held = state_stands m code c.self.inside.state c.self.inside.region run.units s (subst (λ h. Stands h s) (sym c.self.view_is) same) in
    let pure = c.run_in_place.ensures.next s held in
    record {
      stands = own_stands m code c.run_in_place.new.self c.run_in_place.new.region c.run_in_place.ensures.rows.own _ pure.stands;
      output = pure.output;
      rest = pure.rest;
    }
