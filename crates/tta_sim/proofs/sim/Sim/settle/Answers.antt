use Rattle.std.proofs.Common.{sym, subst}
use Rattle.tta_sim.specs.Held.{IsRunOf}
use Rattle.tta_sim.proofs.Owning.{state_run}
use Rattle.tta_sim.proofs.sim.Sim.settle.Goals as goal

pub settle-requires-clause-loaded : goal.settle-requires-clause-loaded
settle-requires-clause-loaded c =
    let run = subst (IsRunOf c.args.m.now c.args.code.now) (sym c.self.view_is) c.requires.loaded in
    state_run c.args.m.now c.args.code.now c.self.inside.state c.self.inside.region run

pub settle-requires-clause-has_units : goal.settle-requires-clause-has_units
settle-requires-clause-has_units c = (subst (IsRunOf c.args.m.now c.args.code.now) (sym c.self.view_is) c.requires.loaded).has_units
