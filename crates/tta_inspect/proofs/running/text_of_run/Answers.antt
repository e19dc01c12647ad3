use Rattle.std.proofs.Common.{ℕ, List, [], refl, subst}
use Rattle.tta_inspect.specs.Cited.{over, data_in, start, stated, MadeEnds, no_memory}
use Rattle.tta_inspect.specs.Runs.{IsRunShown}
use Rattle.tta_inspect.specs.Spans.{first_of}
use Rattle.tta_inspect.proofs.Laying.{few_cycles}
use Rattle.tta_inspect.proofs.running.text_of_run.Goals as goal

pub text_of_sim-requires-clause-few : goal.text_of_sim-requires-clause-few
text_of_sim-requires-clause-few g c =
    few_cycles _ c.args.on.now.file.now.machine (over (data_in c.args.on.now.whole.now) c.args.given.memory.items) (first_of c.args.request.now.view) c.args.request.now.bound
    (c.in-Ok.ensures.start []) c.requires.early c.requires.bound

pub returns-in-Ok : goal.returns-in-Ok
returns-in-Ok g c =
    let U = stated (λ v. (goal.OpUnit-dyn g v).unit_meaning v.1) c.args.units.now in
    let m = c.args.on.now.file.now.machine in
    let whole = c.args.on.now.whole.now in
    let words = c.as_slice.result.now in
    let memory = over (data_in whole) c.args.given.memory.items in
    subst (λ (given : List ℕ). MadeEnds (IsRunShown U c.args.request.now.view m whole.code (start m memory given) c.args.request.now.bound) no_memory (λ v. v.items) c.text_of_sim.result)
    c.as_slice.ensures.value (c.text_of_sim.ensures (start m memory words) (c.in-Ok.ensures.start words) refl refl refl)
