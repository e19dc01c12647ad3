use Rattle.std.proofs.Common.{◌+◌, ap, ◌∙◌, subst}
use Rattle.tta_report.specs.Lines.{lines_text, memory_lines}
use Rattle.tta_report.proofs.Puts.{HasPut, put_more, put_part, part_is_put}
use Rattle.tta_report.proofs.Words.{word_at}
use Rattle.tta_report.proofs.memory.put_memory.Goals as goal

pub returns-in_err-put_word-clause-grows : goal.returns-in_err-put_word-clause-grows
returns-in_err-put_word-clause-grows g c =
    let words = c.args.words.now in
    let has = subst (HasPut (g.S.Sink.output c.args.sink.now).taken (g.S.Sink.output c.words.sink).taken (lines_text (memory_lines 0 words)))
    (word_at words c.words.address c.words.word-index c.words-test.true) c.words.invariant.put in
    let part = c.in_err-put_word.ensures.grows in
    part_is_put _ _ _ _ c.from_residual.ensures.0 (put_part _ _ _ _ _ _ part.0 has part.1)

pub words-preserved : goal.words-preserved
words-preserved g c =
    let words = c.args.words.now in
    let has = subst (HasPut (g.S.Sink.output c.args.sink.now).taken (g.S.Sink.output c.words.sink).taken (lines_text (memory_lines 0 words)))
    (word_at words c.words.address c.words.word-index c.words-test.true) c.words.invariant.put in
    record {
      address = ap (λ k. k + 1) c.words.invariant.address;
      put = put_more _ _ _ _ _ _ has c.in_ok-put_word.ensures.grows;
      faults = c.in_ok-put_word.ensures.cause ∙ c.words.invariant.faults;
    }
