use Rattle.std.proofs.Common.{◌≡◌, ◌++◌, drop}
use Rattle.tta_lower.specs.Plan.{homes_in}
use Rattle.tta_lower.specs.Layout.{passes}
use Rattle.tta_lower.proofs.row.pass_args.Given as goal

abbrev pub invariant-loop-x : goal.invariant-loop-x
invariant-loop-x l =
    l.into.items ++ passes l.plan.p.now (homes_in l.plan) l.owner l.callee l.x (drop l.x l.args)
    ≡ l.fn.into.items ++ passes l.plan.p.now (homes_in l.plan) l.owner l.callee 0 l.args
