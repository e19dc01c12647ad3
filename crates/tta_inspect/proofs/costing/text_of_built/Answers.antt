use Rattle.tta_inspect.specs.Cited.{stated}
use Rattle.tta_inspect.specs.Stages.{IsCauseOf}
use Rattle.tta_inspect.specs.Costs.{IsWholeCost, IsBuiltCost}
use Rattle.tta_inspect.proofs.Made.{made_of}
use Rattle.tta_inspect.proofs.costing.text_of_built.Goals as goal

pub returns-in-Ok : goal.returns-in-Ok
returns-in-Ok g c =
    let U = stated (λ v. (goal.OpUnit-dyn g v).unit_meaning v.1) c.args.units.now in
    let file = c.args.file.now in
    let p = c.args.program.now in
    let whole = c.in-Ok.built.whole in
    made_of (IsWholeCost U file whole) (IsBuiltCost U file p) (IsCauseOf U file.machine p) (λ v. v.items) c.text_of_whole.result
    (λ text is. record { whole = whole; built = c.in-Ok.ensures.built; is = is }) tt c.text_of_whole.ensures
