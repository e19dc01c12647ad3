use Rattle.std.proofs.Common.{◌+◌, sym, ◌∙◌, ap}
use Rattle.tta_tac.specs.Draft.{draft_seen}
use Rattle.tta_tac.proofs.SecondPass.{steps_more, put_after, steps_from}
use Rattle.tta_tac.proofs.link.link_steps.Goals as goal

pub loop-place-preserved : goal.loop-place-preserved
loop-place-preserved c =
    c.loop-place.invariant
    ∙ steps_more (draft_seen c.args.draft.now) c.args.labels.now c.args.steps.now c.args.lines.now c.loop-place.place c.index-steps-place.result
    c.loop-place.linked c.in-Ok.step c.loop-place-test.true c.requires c.index-steps-place.is (sym c.in-Ok.ensures)
    ∙ ap (λ done. put_after done (steps_from (draft_seen c.args.draft.now) c.args.labels.now c.args.steps.now c.args.lines.now (c.loop-place.place + 1))) (sym c.in_ok-push-in-Ok.ensures.ok)
