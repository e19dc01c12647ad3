use Rattle.tta_flow.specs.Rows.{IsWork}
use Rattle.tta_flow.proofs.rows.Work.look_along.Given as goal

abbrev pub invariant-loop-place : goal.invariant-loop-place
invariant-loop-place l = IsWork l.steps l.vars l.self
