use Rattle.std.proofs.Common.{sym, ◌∙◌, subst}
use Rattle.tta_sim.specs.Held.{Stands, held_with}
use Rattle.tta_sim.proofs.Owning.{due_own}
use Rattle.tta_sim.proofs.sim.Sim.due.Goals as goal

pub returns : goal.returns
returns c = λ s same.
    let there = rw (← c.self.view_is) at c.requires.unit in
    c.due.ensures.held ∙ due_own (held_with c.self.inside.state c.self.inside.region) s c.args.unit c.args.delay (subst (λ h. Stands h s) (sym c.self.view_is) same) there
