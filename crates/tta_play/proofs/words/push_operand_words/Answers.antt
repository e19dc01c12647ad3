use Rattle.std.proofs.Common.{◌≡◌, suc, ◌+◌, ◌-◌, ◌++◌, ap, ◌∙◌, arith}
use Rattle.tta_play.specs.States.{operand_word, word_text}
use Rattle.tta_play.proofs.Rows.{word_more}
use Rattle.tta_play.proofs.words.push_operand_words.Goals as goal

pub operands-preserved : goal.operands-preserved
operands-preserved c =
    let test = c.operands-test.true in
    record {
      most = omega arith;
      put = λ s stands.
          let less : c.args.units - c.operands.unit ≡ suc (c.args.units - (c.operands.unit + 1)) = omega arith in
          word_more (operand_word s) _ _ _ c.operands.unit _ _ less
          (c.in_ok-push_word.ensures ∙ ap (λ w. c.operands.out.items ++ word_text w) (c.operand.ensures s stands)) (c.operands.invariant.put s stands);
    }
