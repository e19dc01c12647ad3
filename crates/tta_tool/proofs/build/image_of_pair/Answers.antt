use Rattle.tta_tool.specs.Cited.{stated}
use Rattle.tta_tool.proofs.Building.{whole_image, cause_ends}
use Rattle.tta_tool.proofs.build.image_of_pair.Goals as goal

pub returns-in-Ok : goal.returns-in-Ok
returns-in-Ok g c =
    let U = stated (λ v. (goal.OpUnit-dyn g v).unit_meaning v.1) c.args.units.now in
    whole_image c.args.converts U c.args.pair.now.file c.args.pair.now.program c.in-Ok.built.whole (λ v. v.items) c.image_of_whole.result
    c.in-Ok.ensures.built c.image_of_whole.ensures

pub returns-in-Err : goal.returns-in-Err
returns-in-Err g c =
    let U = stated (λ v. (goal.OpUnit-dyn g v).unit_meaning v.1) c.args.units.now in
    cause_ends c.args.converts U c.args.pair.now.file.machine c.args.pair.now.program c.in-Err.error c.ending_of.result c.ending_of.ensures
    c.in-Err.ensures.cause
