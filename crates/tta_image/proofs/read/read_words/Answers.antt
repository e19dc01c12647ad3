use Rattle.std.proofs.Common.{◌≡◌, suc, ◌+◌, ◌-◌, ◌*◌, List, Bool, drop, sym, ap, ◌∙◌, arith}
use Rattle.std.proofs.lemmas.List.{drop-drop}
use Rattle.std.proofs.lemmas.Result.{err_from_is_err_and}
use Rattle.tta_image.specs.Decoding.{bits_in}
use Rattle.tta_image.specs.Reading.{decoded_words}
use Rattle.tta_image.proofs.Walks.{with_front}
use Rattle.tta_image.proofs.WordsRead.{words_more, words_refused, words_end, words_filled}
use Rattle.tta_image.proofs.read.read_words.Goals as goal

pub loop-word-preserved : goal.loop-word-preserved
loop-word-preserved c =
    let l = c.args.target.now.layout.now in let word = c.loop-word.word in let bits = bits_in c.args.bytes.now in
    let more : (word + 1) * l.width ≡ word * l.width + l.width = grind arith in
    let left : c.args.count - word ≡ suc (c.args.count - (word + 1)) = omega arith in
    record {
      at = let was = c.loop-word.invariant.at in omega arith;
      decoded = ap (λ (b : List Bool). with_front c.push.new.self (decoded_words c.args.target.now.machine.now l (c.args.count - (word + 1)) (word + 1) b)) (sym (drop-drop l.width c.loop-word.at bits))
          ∙ words_more c.args.target.now.machine.now l (c.args.count - word) (c.args.count - (word + 1)) word (drop c.loop-word.at bits) c.in_ok-i.i c.loop-word.words c.push.new.self _ left
          c.in_ok-i.ensures c.in_ok-push.ensures.ok c.loop-word.invariant.decoded;
    }

pub returns : goal.returns
returns c =
    words_end c.args.target.now.machine.now c.args.target.now.layout.now (c.args.count - c.loop-word.word) c.loop-word.word (drop c.loop-word.at (bits_in c.args.bytes.now)) c.loop-word.words _ (omega arith)
    (sym c.has_set_bit.ensures ∙ c.if-has_set_bit.false) c.loop-word.invariant.decoded

pub returns-in_err-i : goal.returns-in_err-i
returns-in_err-i c =
    let word = c.loop-word.word in
    let left : c.args.count - word ≡ suc (c.args.count - (word + 1)) = omega arith in
    let error = err_from_is_err_and c.from_residual.result c.from_residual.ensures.1 in
    rw (error.1, error.2) (words_refused c.args.target.now.machine.now c.args.target.now.layout.now (c.args.count - word) (c.args.count - (word + 1)) word (drop c.loop-word.at (bits_in c.args.bytes.now)) c.in_err-i.field-0.0 c.loop-word.words _ left
    c.in_err-i.ensures c.loop-word.invariant.decoded)

pub returns-then-has_set_bit : goal.returns-then-has_set_bit
returns-then-has_set_bit c =
    rw c.of_all.ensures (words_filled c.args.target.now.machine.now c.args.target.now.layout.now (c.args.count - c.loop-word.word) c.loop-word.word (drop c.loop-word.at (bits_in c.args.bytes.now)) c.loop-word.words _ (omega arith)
    (sym c.has_set_bit.ensures ∙ c.if-has_set_bit.true) c.loop-word.invariant.decoded)
