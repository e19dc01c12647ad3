use Rattle.std.proofs.Common.{◌≡◌, ◌+◌, false, true, sym, subst}
use Rattle.tta_ifconv.specs.Triangles.{is_dropped, becomes}
use Rattle.tta_ifconv.specs.Tables.{AreConverted}
use Rattle.tta_ifconv.proofs.Tabling.{kept_more, kept_same}
use Rattle.tta_ifconv.proofs.steps.converted_steps.Goals as goal
use Rattle.tta_ifconv.proofs.steps.converted_steps.Goals.{then-not-is_dropped+in_ok-step+in_ok-push, else-not-is_dropped}

pub loop-at-preserved : goal.loop-at-preserved
loop-at-preserved c =
    let steps = c.args.steps.now in
    elim c.if-not-is_dropped.branch [
      | then-not-is_dropped+in_ok-step+in_ok-push w ↦
          let stays : is_dropped steps c.loop-at.at ≡ false = let a = w.if-not-is_dropped.true in let b = c.is_dropped.ensures in cc in
          subst (λ n. AreConverted steps (c.loop-at.at + 1) n) (sym w.new-is)
          (kept_more steps (becomes steps) steps c.loop-at.at _ _ _ c.loop-at.invariant stays w.in_ok-push.ensures.ok (λ step there. w.in_ok-step.ensures step there))
      | else-not-is_dropped w ↦
          let drops : is_dropped steps c.loop-at.at ≡ true = let a = w.if-not-is_dropped.false in let b = c.is_dropped.ensures in cc in
          subst (λ n. AreConverted steps (c.loop-at.at + 1) n) (sym w.new-is) (kept_same steps (becomes steps) steps c.loop-at.at _ c.loop-at.invariant drops)
    ]
