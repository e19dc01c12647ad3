use Rattle.std.proofs.Common.{ℕ, List, [], refl, subst}
use Rattle.tta_inspect.specs.Cited.{over, data_of, start, stated, MadeEnds, no_memory}
use Rattle.tta_inspect.specs.Runs.{IsCompiledShown}
use Rattle.tta_inspect.specs.Spans.{first_of}
use Rattle.tta_inspect.proofs.Laying.{few_cycles}
use Rattle.tta_inspect.proofs.compiled.text_of_compiled.Goals as goal

pub text_of_blocks-requires-clause-few : goal.text_of_blocks-requires-clause-few
text_of_blocks-requires-clause-few g c =
    few_cycles _ c.args.on.now.m.now (over (data_of c.args.on.now.p.now) c.args.given.memory.items) (first_of c.args.request.now.view) c.args.request.now.bound
    (c.in-Ok.ensures.start []) c.requires.early c.requires.bound

pub returns-in-Ok : goal.returns-in-Ok
returns-in-Ok g c =
    let on = c.args.on.now in
    let U = stated (λ v. (goal.OpUnit-dyn g v).unit_meaning v.1) on.units.now in
    let words = c.as_slice-words.result.now in
    let memory = over (data_of on.p.now) c.args.given.memory.items in
    subst (λ (given : List ℕ). MadeEnds (IsCompiledShown U c.args.request.now.view on.m.now on.p.now on.stages.now (start on.m.now memory given) c.args.request.now.bound) no_memory (λ v. v.items) c.text_of_blocks.result)
    c.as_slice-words.ensures.value (c.text_of_blocks.ensures (start on.m.now memory words) (c.in-Ok.ensures.start words) refl refl refl)
