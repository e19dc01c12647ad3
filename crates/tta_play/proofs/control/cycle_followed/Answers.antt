use Rattle.std.proofs.Common.{ap, ◌∙◌}
use Rattle.tta_play.specs.Cited.{Machine, stated}
use Rattle.tta_play.specs.Controls.{unless_now}
use Rattle.tta_play.proofs.Landing.{followed}
use Rattle.tta_play.proofs.control.cycle_followed.Goals as goal

pub returns-then-is_some-clause-follows : goal.returns-then-is_some-clause-follows
returns-then-is_some-clause-follows g c = λ s was fed some.
    let on = c.args.basis.now in
    let U = stated (λ v. (goal.OpUnit-dyn g v).unit_meaning v.1) on.units.now in
    let stands = was.stands in
    followed U on.m.now on.code.now c.args.sim.now c.cycle-step.new.self c.args.under_way.now c.unless_now.result _ c.cycles-now.result c.m.inside.control.delay s was c.cycle-step.result
    some c.cycle-step.ensures.counted (c.cycle-step.ensures.next s stands fed) (c.cycle-step.ensures.answer s stands fed) c.cycles-now.ensures
    (ap (λ (m : Machine). m.control.delay) c.m.view_is) (c.acts_in-control.ensures s stands)
    (c.unless_now.ensures ∙ ap (unless_now c.cycles-now.result) c.started.ensures)
