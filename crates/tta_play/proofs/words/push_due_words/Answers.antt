use Rattle.std.proofs.Common.{◌≡◌, suc, ◌+◌, ◌-◌, ◌++◌, ap, ◌∙◌, arith}
use Rattle.tta_play.specs.States.{due_word, word_text, words_text}
use Rattle.tta_play.proofs.Rows.{word_more, words_done}
use Rattle.tta_play.proofs.words.push_due_words.Goals as goal

pub delays-init : goal.delays-init
delays-init c = record {
  most = omega arith;
  put = λ s stands.
      let all : c.args.cycles - 0 ≡ c.args.cycles = omega arith in
      ap (λ n. c.args.out.now.items ++ words_text (due_word s c.args.unit) 1 n) all;
}

pub delays-preserved : goal.delays-preserved
delays-preserved c =
    let test = c.delays-test.true in
    record {
      most = omega arith;
      put = λ s stands.
          let less : c.args.cycles - c.delays.passed ≡ suc (c.args.cycles - (c.delays.passed + 1)) = omega arith in
          word_more (due_word s c.args.unit) _ _ _ (c.delays.passed + 1) _ _ less
          (c.in_ok-push_word.ensures ∙ ap (λ w. c.delays.out.items ++ word_text w) (c.due.ensures s stands)) (c.delays.invariant.put s stands);
    }

pub returns : goal.returns
returns c = λ s stands.
    let most = c.delays.invariant.most in
    let test = c.delays-test.false in
    let none : c.args.cycles - c.delays.passed ≡ 0 = omega arith in
    words_done (due_word s c.args.unit) _ _ (c.delays.passed + 1) _ none (c.delays.invariant.put s stands)
