use Rattle.tta_flow.specs.Settle.{ahead}
use Rattle.tta_flow.proofs.CarryLemmas.{Carrying}
use Rattle.tta_flow.proofs.settle.Settling.carry.Given as goal

abbrev pub invariant-loop-at : goal.invariant-loop-at
invariant-loop-at l = Carrying l.steps l.var l.from l.fn.self.rows.items l.self

abbrev pub decreases-loop-at : goal.decreases-loop-at
decreases-loop-at l = ahead l.var l.self
