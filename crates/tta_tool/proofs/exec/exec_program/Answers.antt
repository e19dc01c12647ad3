use Rattle.std.proofs.Common.{option_map}
use Rattle.tta_tool.specs.Cited.{stated, IsProgramFor, RefusesProgramFor}
use Rattle.tta_tool.specs.Exec.{Reports}
use Rattle.tta_load.proofs.RunEndings.{pair_runs}
use Rattle.tta_tool.proofs.exec.exec_program.Goals as goal

pub returns-in-Ok : goal.returns-in-Ok
returns-in-Ok g c =
    let f = g.F.Files in
    let sink = g.S.Sink in
    let U = stated (λ v. (goal.OpUnit-dyn g v).unit_meaning v.1) c.args.units.now in
    let pair = c.in-Ok.pair in
    let names = c.args.request.now.names in
    pair_runs U (IsProgramFor U) (RefusesProgramFor U) (Reports U c.args.request.now.bound) names.machine.now names.second.now names.input.now (option_map (λ s. s.now) names.stream)
    pair.file pair.program (f.world c.args.files.now) (f.world c.program_pair.new.files) (f.world c.exec_pair.new.files)
    (sink.output c.args.sink.now) (sink.output c.exec_pair.new.sink) c.exec_pair.result c.in-Ok.ensures.ends c.exec_pair.ensures
