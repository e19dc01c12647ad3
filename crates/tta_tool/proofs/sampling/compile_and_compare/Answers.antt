use Rattle.std.proofs.Common.{false, refl, inl}
use Rattle.tta_tool.specs.Cited.{stated}
use Rattle.tta_tool.proofs.Building.{cause_ends}
use Rattle.tta_tool.proofs.sampling.compile_and_compare.Goals as goal

pub returns-in-Err : goal.returns-in-Err
returns-in-Err g c =
    let U = stated (λ v. (goal.OpUnit-dyn g v).unit_meaning v.1) c.args.units.now in
    let cause = cause_ends false U c.args.machine.now c.args.program.now c.in-Err.error c.ending_of.result c.ending_of.ensures c.in-Err.ensures.cause in
    inl (cause, record { taken = refl; faults = refl })
