use Rattle.std.proofs.Common.{ℕ, List, [], refl, subst, ap}
use Rattle.tta_tool.specs.Cited.{CodePair, over, Whole, data_in, cyc, stated}
use Rattle.tta_code.specs.Cycle.{start}
use Rattle.tta_code_run.specs.Cycles.{ended_of, run_text}
use Rattle.tta_tool.specs.Runs.{ReportEnds}
use Rattle.tta_tool.proofs.Laying.{few_cycles}
use Rattle.tta_tool.proofs.running.carry_out.Goals as goal

pub returns-in-Ok : goal.returns-in-Ok
returns-in-Ok g c =
    let U = stated (λ v. (goal.OpUnit-dyn g v).unit_meaning v.1) c.args.units.now in
    let sink = g.S.Sink in
    let m = c.args.pair.now.file.machine in
    let words = c.as_slice.result.now in
    let memory = over (data_in c.args.pair.now.whole) c.args.given.memory.items in
    let old = sink.output c.args.sink.now in
    let new = sink.output c.run_to_status.new.sink in
    let Ends : Whole → (given : List ℕ) → Type 0 = λ whole given.
    let end = cyc U m whole.code memory given c.args.bound in ReportEnds (run_text end) (ended_of end.outcome) old new c.run_to_status.result in
    subst (Ends c.args.pair.now.whole) c.as_slice.ensures.value
    (subst (λ whole. Ends whole words) (ap (λ (p : CodePair). p.whole) c.pair.view_is) (c.run_to_status.ensures (start m memory words) (c.in-Ok.ensures.start words) refl refl))

pub run_to_status-requires-clause-few : goal.run_to_status-requires-clause-few
run_to_status-requires-clause-few g c =
    few_cycles _ c.args.pair.now.file.machine (over (data_in c.args.pair.now.whole) c.args.given.memory.items) c.args.bound (c.in-Ok.ensures.start []) c.requires.bound
