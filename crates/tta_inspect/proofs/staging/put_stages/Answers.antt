use Rattle.tta_inspect.specs.Cited.{stated, IsProgramFor, RefusesProgramFor}
use Rattle.tta_load.proofs.Endings.{puts}
use Rattle.tta_inspect.specs.Stages.{IsStagesOf, IsCauseOf}
use Rattle.tta_inspect.proofs.staging.put_stages.Goals as goal

pub returns-in-Ok : goal.returns-in-Ok
returns-in-Ok g c =
    let f = g.F.Files in
    let sink = g.S.Sink in
    let U = stated (λ v. (goal.OpUnit-dyn g v).unit_meaning v.1) c.args.units.now in
    let pair = c.in-Ok.pair in
    puts U (IsProgramFor U) (RefusesProgramFor U) (IsStagesOf U c.args.names.now.view) (λ file p. IsCauseOf U file.machine p) c.args.names.now.machine.now c.args.names.now.program.now pair.file pair.program
    (f.world c.args.files.now) (f.world c.program_pair.new.files) (sink.output c.args.sink.now) (sink.output c.put_made.new.sink)
    (λ v. v.items) c.text_of_stages-made.result c.put_made.result c.in-Ok.ensures.ends c.text_of_stages-made.ensures c.put_made.ensures
