use Rattle.tta_inspect.specs.Cited.{stated}
use Rattle.tta_load.proofs.Endings.{puts}
use Rattle.tta_inspect.specs.Subjects.{IsSubject, RefusesSubject}
use Rattle.tta_inspect.specs.Runs.{Lacks}
use Rattle.tta_inspect.specs.Circuits.{IsCircuitText}
use Rattle.tta_inspect.proofs.Circuits.{read_suits}
use Rattle.tta_inspect.proofs.writing.put_circuit.Goals as goal

pub text_of_circuit-made-requires-clause-suits : goal.text_of_circuit-made-requires-clause-suits
text_of_circuit-made-requires-clause-suits g c =
    let U = stated (λ v. (goal.OpUnit-dyn g v).unit_meaning v.1) c.args.units.now in
    let pair = c.in-Ok.pair in
    read_suits U pair.file c.in-Ok.ensures.ends.second.bytes pair.subject c.in-Ok.ensures.ends.second.says c.in-Ok.ensures.suits

pub returns-in-Ok : goal.returns-in-Ok
returns-in-Ok g c =
    let f = g.F.Files in
    let sink = g.S.Sink in
    let U = stated (λ v. (goal.OpUnit-dyn g v).unit_meaning v.1) c.args.units.now in
    let pair = c.in-Ok.pair in
    puts U (IsSubject U) (RefusesSubject U) (IsCircuitText U c.args.names.now.view) (Lacks U) c.args.names.now.machine.now c.args.names.now.subject.now pair.file pair.subject
    (f.world c.args.files.now) (f.world c.subject_pair.new.files) (sink.output c.args.sink.now) (sink.output c.put_made.new.sink)
    (λ v. v.items) c.text_of_circuit-made.result c.put_made.result c.in-Ok.ensures.ends c.text_of_circuit-made.ensures c.put_made.ensures
