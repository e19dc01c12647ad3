use Rattle.std.proofs.Common.{◌≡◌, ◌++◌, ◌-◌}
use Rattle.tta_lower.specs.LoweringInput.{first_by}
use Rattle.tta_lower.specs.Plan.{homes_in}
use Rattle.tta_lower.specs.Layout.{sets_from, vars_of}
use Rattle.tta_lower.proofs.entry.set_live.Given as goal

abbrev pub invariant-loop-x : goal.invariant-loop-x
invariant-loop-x l =
    l.into.items ++ sets_from l.plan.p.now (homes_in l.plan) (first_by l.plan.p.now l.plan.live.now l.owner) l.owner l.x (vars_of l.plan.p.now l.owner - l.x)
    ≡ l.fn.into.items ++ sets_from l.plan.p.now (homes_in l.plan) (first_by l.plan.p.now l.plan.live.now l.owner) l.owner 0 (vars_of l.plan.p.now l.owner)
