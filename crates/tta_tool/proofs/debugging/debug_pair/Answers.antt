use Rattle.std.proofs.Common.{ℕ, option_map, subst}
use Rattle.tta_tool.specs.Cited.{stated}
use Rattle.tta_tool.specs.Debug.{ReadsAsked}
use Rattle.tta_tool.proofs.Debuggings.{asked_runs}
use Rattle.tta_tool.proofs.debugging.debug_pair.Goals as goal

pub returns-in-Ok : goal.returns-in-Ok
returns-in-Ok g c =
    let f = g.F.Files in
    let sink = g.S.Sink in
    let U = stated (λ v. (goal.OpUnit-dyn g v).unit_meaning v.1) c.args.units.now in
    let pair = c.args.pair.now in
    let request = c.args.request.now in
    let asked = c.in-Ok.asked in
    let memory = asked.memory.items in
    let script = asked.script.bytes.items in
    let words = asked.script.words.items in
    let stream = option_map (λ s. s.now) request.names.stream in
    let before = f.world c.args.files.now in
    let after = f.world c.asked_files.new.files in
    let Reads : ℕ → Type 0 = λ n. ReadsAsked n request.names.input.now request.script.now stream memory script words before after in
    asked_runs U pair.file.machine pair.whole request.names.input.now request.script.now stream memory script words before after
    (sink.output c.args.sink.now) (sink.output c.carry_out.new.sink) c.carry_out.result
    (subst Reads c.data_words.ensures c.in-Ok.ensures.ends) c.carry_out.ensures
