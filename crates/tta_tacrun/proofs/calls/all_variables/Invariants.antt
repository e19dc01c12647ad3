use Rattle.std.proofs.Common.{◌≡◌, map, replicate, take}
use Rattle.tta_tacrun.proofs.calls.all_variables.Given as goal

abbrev pub invariant-loop-q : goal.invariant-loop-q
invariant-loop-q l = l.variables.items ≡ map (λ q. replicate q.vars 0) (take l.q-index l.procs)
