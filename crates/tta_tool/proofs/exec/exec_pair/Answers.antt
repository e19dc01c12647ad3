use Rattle.std.proofs.Common.{ℕ, option_map, subst}
use Rattle.tta_tool.specs.Cited.{ReadsGiven, stated}
use Rattle.tta_tool.specs.Exec.{Reports}
use Rattle.tta_load.proofs.RunEndings.{given_runs}
use Rattle.tta_tool.proofs.exec.exec_pair.Goals as goal

pub returns-in-Ok : goal.returns-in-Ok
returns-in-Ok g c =
    let f = g.F.Files in
    let sink = g.S.Sink in
    let U = stated (λ v. (goal.OpUnit-dyn g v).unit_meaning v.1) c.args.units.now in
    let pair = c.args.pair.now in
    let names = c.args.request.now.names in
    let before = f.world c.args.files.now in
    let after = f.world c.given_files.new.files in
    let memory = c.in-Ok.given.memory.items in
    let words = c.in-Ok.given.words.items in
    let stream = option_map (λ s. s.now) names.stream in
    let Reads : ℕ → Type 0 = λ n. ReadsGiven n names.input.now stream memory words before after in
    given_runs pair.file.machine.data_words (Reports U c.args.request.now.bound pair.file pair.program) names.input.now stream memory words before after
    (sink.output c.args.sink.now) (sink.output c.carry_out.new.sink) c.carry_out.result
    (subst Reads c.data_words-space.ensures c.in-Ok.ensures.ends) c.carry_out.ensures
