use Rattle.std.proofs.Common.{ℕ, ◌*◌, ◌+◌, inr, subst}
use Rattle.tta_tool.specs.Cited.{stated, sample_text, IsProgramIn}
use Rattle.tta_tool.specs.Sample.{CompileEnds}
use Rattle.tta_tool.proofs.sampling.sample_for.Goals as goal

pub returns-in-Ok : goal.returns-in-Ok
returns-in-Ok g c =
    let sink = g.S.Sink in
    let U = stated (λ v. (goal.OpUnit-dyn g v).unit_meaning v.1) c.args.units.now in
    let program = c.in-Ok.program in
    let old = sink.output c.args.sink.now in
    let new = sink.output c.compile_and_compare.new.sink in
    let Says : ℕ → Type 0 = λ n. IsProgramIn U n (sample_text c.args.seed c.args.lines) program in
    let Ends : ℕ → Type 0 = λ n. CompileEnds U c.args.machine.now program (32 * n + 50) old new c.compile_and_compare.result in
    inr (program, subst Says c.data_words.ensures c.in-Ok.ensures.takes, subst Ends c.from.ensures c.compile_and_compare.ensures)
