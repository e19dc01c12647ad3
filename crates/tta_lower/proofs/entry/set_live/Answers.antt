use Rattle.std.proofs.Common.{◌∙◌, arith}
use Rattle.tta_lower.specs.LoweringInput.{first_by}
use Rattle.tta_lower.specs.Plan.{homes_in}
use Rattle.tta_lower.specs.Layout.{vars_of}
use Rattle.tta_lower.proofs.Rows.{sets_more}
use Rattle.tta_lower.proofs.entry.set_live.Goals as goal

pub loop-x-preserved : goal.loop-x-preserved
loop-x-preserved c =
    let plan = c.args.plan.now in
    sets_more plan.p.now (homes_in plan) (first_by plan.p.now plan.live.now c.args.owner) c.args.owner c.loop-x.x (vars_of plan.p.now c.args.owner) c.is_live-live.result
    c.loop-x.into.items c.set_if.new.into.items (omega (arith, c.loop-x-test.true, c.vars_in-vars.ensures)) c.is_live-live.ensures c.in_ok-set_if.ensures
    ∙ c.loop-x.invariant
