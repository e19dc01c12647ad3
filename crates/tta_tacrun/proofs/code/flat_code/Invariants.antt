use Rattle.std.proofs.Common.{◌≡◌, map, take}
use Rattle.tta_tacrun.specs.Code.{code_said}
use Rattle.tta_tacrun.specs.Run.{silent_part}
use Rattle.tta_tacrun.proofs.code.flat_code.Given as goal

abbrev pub invariant-loop-q : goal.invariant-loop-q
invariant-loop-q l =
    code_said l.code.items ≡ map (λ q. record { size = q.vars; steps = map silent_part q.steps }) (take l.q-index l.procs)
