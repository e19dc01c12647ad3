use Rattle.std.proofs.Common.{ℕ, List, [], refl, subst}
use Rattle.tta_inspect.specs.Cited.{over, data_in, start, stated, CodePair}
use Rattle.tta_inspect.specs.Prompts.{EndsAs}
use Rattle.tta_inspect.proofs.Prompted.{first_few}
use Rattle.tta_inspect.proofs.prompting.session_of.Goals as goal

pub session_to_status-requires-clause-few : goal.session_to_status-requires-clause-few
session_to_status-requires-clause-few g c =
    let pair = c.args.pair.now in
    first_few c.in-Ok.sim c.new-session.result pair.file.machine (over (data_in pair.whole) c.args.given.memory.items) (c.in-Ok.ensures.start []) c.new-session.ensures.held

pub returns-in-Ok : goal.returns-in-Ok
returns-in-Ok g c =
    let U = stated (λ v. (goal.OpUnit-dyn g v).unit_meaning v.1) c.args.units.now in
    let pair = c.args.pair.now in
    let m = pair.file.machine in
    let memory = over (data_in pair.whole) c.args.given.memory.items in
    let words = c.as_slice.result.now in
    let came = g.L.Lines.come c.args.lines.now in
    let comes = g.L.Lines.come c.session_to_status.new.lines in
    let old = g.S.Sink.output c.args.sink.now in
    let new = g.S.Sink.output c.session_to_status.new.sink in
    let s = start m memory words in
    let ends = c.session_to_status.ensures (record { state = s; stops = [] }) (c.new-session.ensures.follows words s (c.in-Ok.ensures.start words) refl) in
    let held = subst (λ (p : CodePair). EndsAs U p.file.machine p.whole.code words (record { state = s; stops = [] }) came comes old new c.session_to_status.result) c.pair.view_is ends in
    subst (λ (given : List ℕ). EndsAs U m pair.whole.code given (record { state = start m memory given; stops = [] }) came comes old new c.session_to_status.result)
    c.as_slice.ensures.value held
