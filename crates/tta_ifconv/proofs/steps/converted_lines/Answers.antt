use Rattle.std.proofs.Common.{◌≡◌, ◌+◌, false, true, sym, subst}
use Rattle.tta_ifconv.specs.Triangles.{is_dropped}
use Rattle.tta_ifconv.specs.Tables.{AreLines}
use Rattle.std.proofs.lemmas.Option.{get_or_from_slice_get}
use Rattle.tta_ifconv.proofs.Tabling.{kept_more, kept_same}
use Rattle.tta_ifconv.proofs.steps.converted_lines.Goals as goal
use Rattle.tta_ifconv.proofs.steps.converted_lines.Goals.{then-not-is_dropped+in_ok-push, else-not-is_dropped}

pub loop-at-preserved : goal.loop-at-preserved
loop-at-preserved c =
    let steps = c.args.steps.now in
    let lines = c.args.lines.now in
    elim c.if-not-is_dropped.branch [
      | then-not-is_dropped+in_ok-push w ↦
          let stays : is_dropped steps c.loop-at.at ≡ false = let a = w.if-not-is_dropped.true in let b = c.is_dropped.ensures in cc in
          subst (λ n. AreLines steps lines (c.loop-at.at + 1) n) (sym w.new-is)
          (kept_more steps _ lines c.loop-at.at _ _ _ c.loop-at.invariant stays w.in_ok-push.ensures.ok (λ line there. get_or_from_slice_get lines c.loop-at.at line 0 there))
      | else-not-is_dropped w ↦
          let drops : is_dropped steps c.loop-at.at ≡ true = let a = w.if-not-is_dropped.false in let b = c.is_dropped.ensures in cc in
          subst (λ n. AreLines steps lines (c.loop-at.at + 1) n) (sym w.new-is) (kept_same steps _ lines c.loop-at.at _ c.loop-at.invariant drops)
    ]
