use Rattle.std.proofs.Common.{option_map}
use Rattle.tta_inspect.specs.Cited.{stated}
use Rattle.tta_load.proofs.RunEndings.{pair_runs}
use Rattle.tta_inspect.specs.Subjects.{IsSubject, RefusesSubject}
use Rattle.tta_inspect.specs.Runs.{Tells}
use Rattle.tta_inspect.proofs.running.run_subject.Goals as goal

pub returns-in-Ok : goal.returns-in-Ok
returns-in-Ok g c =
    let f = g.F.Files in
    let sink = g.S.Sink in
    let U = stated (λ v. (goal.OpUnit-dyn g v).unit_meaning v.1) c.args.units.now in
    let pair = c.in-Ok.pair in
    let run = c.args.request.now in
    pair_runs U (IsSubject U) (RefusesSubject U) (Tells U run.view run.bound) run.machine.now run.subject.now run.input.now (option_map (λ s. s.now) run.stream)
    pair.file pair.subject (f.world c.args.files.now) (f.world c.subject_pair.new.files) (f.world c.run_pair.new.files)
    (sink.output c.args.sink.now) (sink.output c.run_pair.new.sink) c.run_pair.result c.in-Ok.ensures.ends c.run_pair.ensures
