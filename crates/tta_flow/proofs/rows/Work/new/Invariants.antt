use Rattle.tta_flow.proofs.RoundLemmas.{IsNew}
use Rattle.tta_flow.proofs.rows.Work.new.Given as goal

abbrev pub invariant-loop-at : goal.invariant-loop-at
invariant-loop-at l = IsNew l.steps l.vars l.at l.rows.items l.due
