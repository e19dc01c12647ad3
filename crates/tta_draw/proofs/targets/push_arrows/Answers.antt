use Rattle.std.proofs.Common.{ℕ, ◌+◌, ◌++◌, length, take, ap, ◌∙◌}
use Rattle.tta_arch.proofs.CodeLists.{pieces_more}
use Rattle.tta_draw.specs.ImmediateWord.{known_word}
use Rattle.tta_draw.specs.Targets.{arrow_at, arrow_to, nearest_word, target_of}
use Rattle.tta_draw.proofs.Knowing.{target-same, knows-more}
use Rattle.tta_draw.proofs.targets.push_arrows.Goals as goal

pub loop-row-preserved : goal.loop-row-preserved
loop-row-preserved c =
    let m = c.args.m.now in
    let words = c.args.words.now in
    let row = c.loop-row.row in
    let i = c.index-words-row.result in
    let was = c.loop-row.invariant in
    let target =
    c.target_of-target.ensures ∙ ap (λ ks. target_of (known_word ks) i) c.as_slice.ensures.value
    ∙ target-same (known_word c.loop-row.known.items) (nearest_word m (take row words)) i was.knows in
    record {
      arrows = pieces_more (λ i. arrow_at m words i.0 i.1) _ _ _ words row i c.loop-row-test.true c.index-words-row.is
          (c.in_ok-push_arrow_to.ensures
          ∙ ap (λ (d : ℕ). c.loop-row.arrows.items ++ arrow_to (length words) (row + d) c.target_of-target.result) c.delay_of.ensures.all
          ∙ ap (λ o. c.loop-row.arrows.items ++ arrow_to (length words) (row + m.control.delay) o) target) was.arrows;
      knows = knows-more m words row i _ _ c.loop-row-test.true c.index-words-row.is c.in_ok-learn_from.ensures was.knows;
    }
