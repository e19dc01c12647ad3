use Rattle.tta_tool.specs.Cited.{stated, IsProgramFor, RefusesProgramFor}
use Rattle.tta_tool.specs.Build.{IsImageOf, IsCauseOf}
use Rattle.tta_load.proofs.Endings.{writes}
use Rattle.tta_tool.proofs.build.build_image.Goals as goal

pub returns-in-Ok : goal.returns-in-Ok
returns-in-Ok g c =
    let f = g.F.Files in
    let U = stated (λ v. (goal.OpUnit-dyn g v).unit_meaning v.1) c.args.units.now in
    let names = c.args.request.now.names in
    let converts = c.args.request.now.converts in
    let pair = c.in-Ok.pair in
    writes U (IsProgramFor U) (RefusesProgramFor U) (IsImageOf converts U) (λ file p. IsCauseOf converts U file.machine p)
    names.machine.now names.second.now names.out.now pair.file pair.program (f.world c.args.files.now) (f.world c.program_pair.new.files) (f.world c.write_made.new.files) (λ v. v.items)
    c.image_of_pair-made.result c.write_made.result c.in-Ok.ensures.ends c.image_of_pair-made.ensures c.write_made.ensures
