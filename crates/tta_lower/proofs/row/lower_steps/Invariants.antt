use Rattle.std.proofs.Common.{◌≡◌, ◌++◌, ◌+◌, ◌-◌}
use Rattle.tta_lower.specs.Plan.{homes_in}
use Rattle.tta_lower.specs.Layout.{code_from}
use Rattle.tta_lower.proofs.row.lower_steps.Given as goal

abbrev pub invariant-loop-at : goal.invariant-loop-at
invariant-loop-at l =
    l.into.items ++ code_from l.plan.p.now (homes_in l.plan) l.b.owner l.at (l.b.last + 1 - l.at)
    ≡ l.fn.into.items ++ code_from l.plan.p.now (homes_in l.plan) l.b.owner l.b.first (l.b.last + 1 - l.b.first)
