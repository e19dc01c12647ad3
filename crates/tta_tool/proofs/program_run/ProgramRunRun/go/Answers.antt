use Rattle.std.proofs.Common.{ap}
use Rattle.tta_tool.specs.Cited.{stated}
use Rattle.tta_program.specs.Sequential.{State, next}
use Rattle.tta_tool.proofs.program_run.ProgramRunRun.go.Goals as goal
use Rattle.tta_program.proofs.Halted.{halted_stays}

pub returns-in-Halted-clause-leaves : goal.returns-in-Halted-clause-leaves
returns-in-Halted-clause-leaves g c = λ s stands fed.
    let U = stated (λ v. (goal.OpUnit-dyn g v).unit_meaning v.1) c.args.units.now in
    let p = c.args.self.now.program.now in
    let is = halted_stays U p s (c.in-Halted.ensures.answer s stands fed) in
    record { stands = c.in-Halted.ensures.next s stands fed; output = ap (λ (x : State). x.output) is; stays = ap (next U p) is }
