use Rattle.std.proofs.Common.{◌<◌, ◌^◌, [], refl, sym, subst, ap}
use Rattle.tta_tool.specs.Cited.{CodePair, over, Whole, data_in, stated, Session'}
use Rattle.tta_code.specs.Cycle.{start}
use Rattle.tta_debug.specs.Debugged.{session as replies_of}
use Rattle.tta_debug.specs.Scripts.{lines_of}
use Rattle.tta_tool.specs.Debug.{at_first, SessionEnds}
use Rattle.tta_tool.proofs.Laying.{first_cycle}
use Rattle.tta_tool.proofs.debugging.carry_out.Goals as goal

pub returns-in-Ok : goal.returns-in-Ok
returns-in-Ok g c =
    let U = stated (λ v. (goal.OpUnit-dyn g v).unit_meaning v.1) c.args.units.now in
    let sink = g.S.Sink in
    let m = c.args.pair.now.file.machine in
    let words = c.args.asked.script.words.items in
    let memory = over (data_in c.args.pair.now.whole) c.args.asked.memory.items in
    let first = at_first U m c.args.pair.now.whole c.args.asked.memory.items words in
    let old = sink.output c.args.sink.now in
    let new = sink.output c.script_to_status.new.sink in
    let Ends : Whole → Type 0 = λ whole. SessionEnds (replies_of U m whole.code (lines_of c.args.asked.script.bytes.items) first) old new c.script_to_status.result in
    subst Ends (ap (λ (p : CodePair). p.whole) c.pair.view_is)
    (c.script_to_status.ensures first (c.new-session.ensures.follows words (start m memory words) (c.in-Ok.ensures.start words) refl))

pub script_to_status-requires-clause-few : goal.script_to_status-requires-clause-few
script_to_status-requires-clause-few g c =
    let Few : Session' → Type 0 = λ h. h.held.cycle < 2 ^ 60 in
    subst Few (sym c.new-session.ensures.held)
    (first_cycle c.in-Ok.sim c.args.pair.now.file.machine (over (data_in c.args.pair.now.whole) c.args.asked.memory.items) (c.in-Ok.ensures.start []))
