-- Each step adds what it calls.
use Rattle.std.proofs.Common.{◌∙◌, refl}
use Rattle.tta_tac.proofs.Search.{finds_none, finds_more, finds_all}
use Rattle.tta_tac.proofs.cycles.mark_callees.Goals as goal

pub loop-step-init : goal.loop-step-init
loop-step-init c = record { size = refl; marked = c.requires; finds = finds_none _ _ }

pub mark_callee-requires : goal.mark_callee-requires
mark_callee-requires c = c.loop-step.invariant.marked

pub loop-step-preserved : goal.loop-step-preserved
loop-step-preserved c =
    let before = c.loop-step.invariant in
    let here = c.in_ok-mark_callee.ensures in
    record {
      size = here.size ∙ before.size;
      marked = here.marked;
      finds = finds_more _ _ c.args.steps.now c.loop-step.step-index c.step-item.result _ _ _
          before.size c.loop-step-test.true c.step-item.is before.finds here.finds;
    }

pub returns-clause-size : goal.returns-clause-size
returns-clause-size c = c.loop-step.invariant.size

pub returns-clause-marked : goal.returns-clause-marked
returns-clause-marked c = c.loop-step.invariant.marked

pub returns-clause-finds : goal.returns-clause-finds
returns-clause-finds c = finds_all _ _ _ _ _ c.loop-step-test.false c.loop-step.invariant.finds
