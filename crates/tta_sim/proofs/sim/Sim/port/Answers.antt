use Rattle.std.proofs.Common.{sym, ◌∙◌, subst}
use Rattle.tta_sim.specs.Held.{Stands, held_with}
use Rattle.tta_sim.proofs.Owning.{port_own}
use Rattle.tta_sim.proofs.sim.Sim.port.Goals as goal

pub returns : goal.returns
returns c = λ s same.
    let there = rw (← c.self.view_is) at c.requires in
    c.port.ensures.held ∙ port_own (held_with c.self.inside.state c.self.inside.region) s c.args.unit (subst (λ h. Stands h s) (sym c.self.view_is) same) there
