use Rattle.tta_play.specs.Cited.{stated}
use Rattle.tta_play.specs.Controls.{Follows}
use Rattle.tta_play.proofs.Told.{goes}
use Rattle.tta_play.proofs.cycling.cycle_once.Goals as goal

pub returns-clause-goes : goal.returns-clause-goes
returns-clause-goes g c = λ s was fed.
    let on = c.args.basis.now in
    let U = stated (λ v. (goal.OpUnit-dyn g v).unit_meaning v.1) on.units.now in
    let new = c.cycle_followed.new.sim in
    goes U on.m.now on.code.now c.args.sim.now new (Follows new c.cycle_followed.new.under_way) s was.stands c.cycle_followed.result c.cycle_followed.ensures.counted
    (c.cycle_followed.ensures.next s was.stands fed) (c.cycle_followed.ensures.answer s was.stands fed) (c.cycle_followed.ensures.follows s was fed)
