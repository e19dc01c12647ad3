use Rattle.std.proofs.Common.{◌-◌}
use Rattle.tta_flow.proofs.SettleLemmas.{Taken}
use Rattle.tta_flow.proofs.settle.Settling.take.Given as goal

abbrev pub invariant-loop-var : goal.invariant-loop-var
invariant-loop-var l = Taken l.steps l.at l.room l.var l.initial.self l.self

abbrev pub decreases-loop-var : goal.decreases-loop-var
decreases-loop-var l = l.vars - l.var
