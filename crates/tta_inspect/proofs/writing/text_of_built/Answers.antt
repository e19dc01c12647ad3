use Rattle.tta_inspect.specs.Cited.{stated}
use Rattle.tta_inspect.specs.Stages.{IsCauseOf}
use Rattle.tta_inspect.specs.Circuits.{IsWholeCircuit, IsBuiltCircuit}
use Rattle.tta_inspect.proofs.Made.{made_of}
use Rattle.tta_inspect.proofs.writing.text_of_built.Goals as goal

pub returns-in-Ok : goal.returns-in-Ok
returns-in-Ok g c =
    let U = stated (λ v. (goal.OpUnit-dyn g v).unit_meaning v.1) c.args.units.now in
    let file = c.args.file.now in
    let p = c.args.program.now in
    let whole = c.in-Ok.built.whole in
    made_of (IsWholeCircuit U c.args.view file whole) (IsBuiltCircuit U c.args.view file p) (IsCauseOf U file.machine p) (λ v. v.items) c.text_of_whole.result
    (λ text is. record { whole = whole; built = c.in-Ok.ensures.built; is = is }) tt c.text_of_whole.ensures
