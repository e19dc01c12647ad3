use Rattle.std.proofs.Common.{◌*◌, ◌+◌, subst}
use Rattle.tta_tool.specs.Cited.{stated}
use Rattle.tta_tool.specs.Sample.{HasCycled}
use Rattle.tta_tool.proofs.Samplings.{s, t, stand_alike, compared}
use Rattle.tta_tool.proofs.comparing.compare_code.Goals as goal

pub returns-in-Ok : goal.returns-in-Ok
returns-in-Ok g c = λ bound built run halted.
    let U = stated (λ v. (goal.OpUnit-dyn g v).unit_meaning v.1) c.args.units.now in
    let sink = g.S.Sink in
    let m = c.args.compiled.now.machine.now in
    let p = c.args.compiled.now.program.now in
    let whole = c.args.compiled.now.whole.now in
    let r = c.args.ran.now.seq in
    let words = c.args.ran.now.kept.output.items in
    let cycled = c.in-Ok.cycled in
    let cycles = subst (λ w. HasCycled U m whole (w * (r.steps + 1)) cycled.sim cycled.kept.output.items cycled.kept.waits) c.count_words.ensures.count
    (subst (λ n. HasCycled U m whole (c.count_words.result * (n + 1)) cycled.sim cycled.kept.output.items cycled.kept.waits) c.steps.ensures c.in-Ok.ensures) in
    let alike = stand_alike U m p whole bound built r words run halted cycled.sim cycled.kept.output.items cycled.kept.waits cycles in
    let old = sink.output c.args.sink.now in
    let new = sink.output c.put_summary.new.sink in
    compared U m p whole bound built r words run halted old new c.put_summary.result
    (c.put_summary.ensures (s U m p whole bound built r words run halted) (t U m p whole bound built r words run halted) alike)
