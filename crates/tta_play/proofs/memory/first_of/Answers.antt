use Rattle.std.proofs.Common.{◌≤◌, length, sym, arith}
use Rattle.std.proofs.lemmas.List.{take_all, length-take-le}
use Rattle.tta_play.proofs.memory.first_of.Goals as goal

pub slice_bounds-result-end : goal.slice_bounds-result-end
slice_bounds-result-end c =
    let more = c.if-words-gt-MOST_WORDS.true in
    let enough : 4096 ≤ length c.args.words.now = omega (arith, more) in
    sym (length-take-le 4096 c.args.words.now enough)

pub returns-else-words-gt-MOST_WORDS : goal.returns-else-words-gt-MOST_WORDS
returns-else-words-gt-MOST_WORDS c =
    let few = c.if-words-gt-MOST_WORDS.false in
    let all : length c.args.words.now ≤ 4096 = omega (arith, few) in
    sym (take_all 4096 c.args.words.now all)
