use Rattle.tta_inspect.specs.Cited.{stated}
use Rattle.tta_block_profile.proofs.Legal.{stages_legal}
use Rattle.tta_inspect.proofs.drawing.draw_compiled.Goals as goal

pub draw_code-requires : goal.draw_code-requires
draw_code-requires g c =
    let on = c.args.on.now in
    let U = stated (λ v. (goal.OpUnit-dyn g v).unit_meaning v.1) on.units.now in
    stages_legal U on.m.now on.p.now on.stages.now c.requires
