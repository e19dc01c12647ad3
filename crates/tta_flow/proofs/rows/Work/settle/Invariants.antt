use Rattle.tta_flow.proofs.SettleLemmas.{IsSettling}
use Rattle.tta_flow.proofs.rows.Work.settle.Given as goal

abbrev pub invariant-loop-at : goal.invariant-loop-at
invariant-loop-at l = IsSettling l.steps l.vars l.at l.due l.room l.settling
