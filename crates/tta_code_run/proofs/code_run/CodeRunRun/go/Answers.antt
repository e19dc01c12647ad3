use Rattle.std.proofs.Common.{ap}
use Rattle.tta_code_run.specs.Cited.{stated}
use Rattle.tta_code.specs.Cycle.{State, next}
use Rattle.tta_sim.proofs.Silent.{fault_is_silent}
use Rattle.tta_code_run.proofs.CodeCycles.{halted_stays, fault_stays}
use Rattle.tta_code_run.proofs.code_run.CodeRunRun.go.Goals as goal

pub returns-in-Halted-clause-leaves : goal.returns-in-Halted-clause-leaves
returns-in-Halted-clause-leaves g c = λ s stands fed.
    let U = stated (λ v. (goal.OpUnit-dyn g v).unit_meaning v.1) c.args.units.now in
    let m = c.args.self.now.machine.now in
    let code = c.args.self.now.code.now in
    let is = halted_stays U m code s (c.in-Halted.ensures.answer s stands fed) in
    record { stands = c.in-Halted.ensures.next s stands fed; output = ap (λ (x : State). x.output) is; stays = ap (next U m code) is }

pub returns-in-Fault-clause-leaves : goal.returns-in-Fault-clause-leaves
returns-in-Fault-clause-leaves g c = λ s stands fed.
    let U = stated (λ v. (goal.OpUnit-dyn g v).unit_meaning v.1) c.args.units.now in
    let m = c.args.self.now.machine.now in
    let code = c.args.self.now.code.now in
    let fault = c.in-Fault.ensures.answer s stands fed in
    record {
      stands = c.in-Fault.ensures.next s stands fed;
      output = (fault_is_silent U m code s _ _ fault).output;
      stays = fault_stays U m code (next U m code s) _ _ fault;
    }
