use Rattle.std.proofs.Common.{ℕ, option_map, subst}
use Rattle.tta_inspect.specs.Cited.{stated}
use Rattle.tta_load.specs.Inputs.{ReadsGiven}
use Rattle.tta_load.proofs.Endings.{text_ends}
use Rattle.tta_load.proofs.RunEndings.{given_runs}
use Rattle.tta_inspect.specs.Runs.{IsShown, Lacks, Tells}
use Rattle.tta_inspect.proofs.running.run_pair.Goals as goal

pub returns-in-Ok : goal.returns-in-Ok
returns-in-Ok g c =
    let f = g.F.Files in
    let sink = g.S.Sink in
    let U = stated (λ v. (goal.OpUnit-dyn g v).unit_meaning v.1) c.args.units.now in
    let pair = c.args.pair.now in
    let run = c.args.request.now in
    let before = f.world c.args.files.now in
    let after = f.world c.given_files.new.files in
    let memory = c.in-Ok.given.memory.items in
    let words = c.in-Ok.given.words.items in
    let stream = option_map (λ s. s.now) run.stream in
    let Reads : ℕ → Type 0 = λ n. ReadsGiven n run.input.now stream memory words before after in
    given_runs pair.file.machine.data_words (Tells U run.view run.bound pair.file pair.subject) run.input.now stream memory words before after
    (sink.output c.args.sink.now) (sink.output c.put_made.new.sink) c.put_made.result
    (subst Reads c.data_words-space.ensures c.in-Ok.ensures.ends)
    (text_ends (IsShown U run.view run.bound pair.file pair.subject memory words) (Lacks U pair.file pair.subject) (sink.output c.args.sink.now) (sink.output c.put_made.new.sink) (λ v. v.items)
    c.text_of_subject-made.result c.put_made.result c.text_of_subject-made.ensures c.put_made.ensures)
