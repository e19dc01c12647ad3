use Rattle.tta_flow.specs.Rows.{IsWork}
use Rattle.tta_flow.proofs.rows.live_rows.Given as goal

abbrev pub invariant-loop : goal.invariant-loop
invariant-loop l = IsWork l.steps l.vars l.work
