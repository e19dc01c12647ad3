use Rattle.std.proofs.Common.{◌<◌, ◌^◌, List, [], ℕ, refl, sym, subst}
use Rattle.tta_tool.specs.Cited.{over, data_of, stated}
use Rattle.tta_program.specs.Sequential.{start}
use Rattle.tta_tool.specs.Exec.{Reports}
use Rattle.tta_tool.proofs.Laying.{few_steps, short_memory}
use Rattle.tta_tool.proofs.exec.carry_out.Goals as goal
use Rattle.tta_list.proofs.Sets.{over-length}

pub returns-in-Ok : goal.returns-in-Ok
returns-in-Ok g c =
    let U = stated (λ v. (goal.OpUnit-dyn g v).unit_meaning v.1) c.args.units.now in
    let sink = g.S.Sink in
    let pair = c.args.pair.now in
    let words = c.as_slice.result.now in
    let memory = over (data_of pair.program) c.args.given.memory.items in
    let Ends : (given : List ℕ) → Type 0 = λ given. Reports U c.args.bound pair.file pair.program c.args.given.memory.items given
    (sink.output c.args.sink.now) (sink.output c.run_to_status.new.sink) c.run_to_status.result in
    subst Ends c.as_slice.ensures.value
    (c.run_to_status.ensures (start pair.program memory words) (c.in-Ok.ensures.start words) refl refl)

pub run_to_status-requires-clause-few : goal.run_to_status-requires-clause-few
run_to_status-requires-clause-few g c =
    few_steps _ c.args.pair.now.program (over (data_of c.args.pair.now.program) c.args.given.memory.items) c.args.bound (c.in-Ok.ensures.start []) c.requires.bound

pub run_to_status-requires-clause-short : goal.run_to_status-requires-clause-short
run_to_status-requires-clause-short g c =
    let program = c.args.pair.now.program in
    let memory = c.args.given.memory.items in
    short_memory _ program (over (data_of program) memory) (c.in-Ok.ensures.start [])
    (subst (λ n. n < 2 ^ 32) (sym (over-length (data_of program) memory)) c.requires.short)
