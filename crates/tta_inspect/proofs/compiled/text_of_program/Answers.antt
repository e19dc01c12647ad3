use Rattle.tta_inspect.specs.Cited.{over, stated, data_of, start}
use Rattle.tta_inspect.specs.Stages.{IsCauseOf}
use Rattle.tta_inspect.specs.Runs.{IsCompiledShown, IsProgramShown}
use Rattle.tta_inspect.proofs.Made.{made_of}
use Rattle.tta_inspect.proofs.compiled.text_of_program.Goals as goal

pub returns-in-Ok : goal.returns-in-Ok
returns-in-Ok g c =
    let U = stated (λ v. (goal.OpUnit-dyn g v).unit_meaning v.1) c.args.units.now in
    let file = c.args.file.now in
    let p = c.args.program.now in
    let run = c.args.request.now in
    let stages = c.in-Ok.stages in
    let memory = c.args.given.memory.items in
    let words = c.args.given.words.items in
    made_of (IsCompiledShown U run.view file.machine p stages (start file.machine (over (data_of p) memory) words) run.bound)
    (IsProgramShown U run.view run.bound file p memory words) (IsCauseOf U file.machine p) (λ v. v.items) c.text_of_compiled.result
    (λ text shown. record { stages = stages; are = c.in-Ok.ensures.stages; shown = shown }) tt c.text_of_compiled.ensures
