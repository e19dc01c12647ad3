use Rattle.tta_pretty.specs.Cited.{stated}
use Rattle.tta_pretty.proofs.Pushing.{put_more, steps_more, step_put}
use Rattle.tta_pretty.proofs.print.push_steps.Goals as goal

pub loop-at-preserved : goal.loop-at-preserved
loop-at-preserved g c =
    let U = stated (λ v. (goal.OpUnit-dyn g v).unit_meaning v.1) c.args.units.now in
    let put = step_put U c.args.main c.args.steps.now c.loop-at.at c.index-steps-at.result _ c.loop-at.out.items _ _ (c.requires.marks.each c.loop-at.at c.loop-at-test.true)
    c.in_ok-push_label_line.ensures c.in_ok-push_step.ensures in
    put_more _ _ _ _ _ _ put c.loop-at.invariant (steps_more U c.args.main c.args.steps.now c.loop-at.at c.index-steps-at.result c.loop-at-test.true c.index-steps-at.is)
