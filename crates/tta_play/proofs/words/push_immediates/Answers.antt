use Rattle.std.proofs.Common.{◌≡◌, suc, ◌+◌, ◌-◌, ◌++◌, ap, ◌∙◌, arith}
use Rattle.tta_play.specs.States.{immediate_word, word_text}
use Rattle.tta_play.proofs.Rows.{word_more}
use Rattle.tta_play.proofs.words.push_immediates.Goals as goal

pub registers-preserved : goal.registers-preserved
registers-preserved c =
    let test = c.registers-test.true in
    record {
      most = omega arith;
      put = λ s stands.
          let less : c.args.size - c.registers.index ≡ suc (c.args.size - (c.registers.index + 1)) = omega arith in
          word_more (immediate_word s c.args.unit) _ _ _ c.registers.index _ _ less
          (c.in_ok-push_word.ensures ∙ ap (λ w. c.registers.out.items ++ word_text w) (c.immediate.ensures s stands)) (c.registers.invariant.put s stands);
    }
