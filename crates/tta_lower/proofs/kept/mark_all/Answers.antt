use Rattle.std.proofs.Common.{◌≡◌, ◌∙◌, ap, arith}
use Rattle.tta_lower.specs.Plan.{homes_in, live_in}
use Rattle.tta_lower.specs.Lower.{owner_of}
use Rattle.tta_lower.specs.Layout.{vars_of}
use Rattle.tta_lower.proofs.Marks.{marked_more, marked_all}
use Rattle.tta_lower.proofs.kept.mark_all.Goals as goal

pub loop-x-preserved : goal.loop-x-preserved
loop-x-preserved c =
    let plan = c.args.plan.now in
    let owner = owner_of c.args.part in
    let size : c.vars_in-vars.result ≡ vars_of plan.p.now owner = c.vars_in-vars.ensures ∙ ap (vars_of plan.p.now) c.owner_of.ensures in
    record {
      size = c.mark_live.ensures.size ∙ c.loop-x.invariant.size;
      marked = marked_more (homes_in plan) (vars_of plan.p.now owner) owner (live_in plan c.args.part) c.loop-x.x c.loop-x.marks.items c.mark_live.new.marks.items
          (omega (arith, c.loop-x-test.true, size)) c.mark_live.ensures.size c.mark_live.ensures.marks c.loop-x.invariant.marked;
    }

pub returns-clause-marks : goal.returns-clause-marks
returns-clause-marks c =
    let plan = c.args.plan.now in
    let owner = owner_of c.args.part in
    let size : c.vars_in-vars.result ≡ vars_of plan.p.now owner = c.vars_in-vars.ensures ∙ ap (vars_of plan.p.now) c.owner_of.ensures in
    let end : c.loop-x.x ≡ vars_of plan.p.now owner = omega (arith, c.loop-x-test.false, c.loop-x.auto.x-end, size) in
    marked_all (homes_in plan) (vars_of plan.p.now owner) owner (live_in plan c.args.part) c.loop-x.x c.loop-x.marks.items end c.loop-x.invariant.marked
