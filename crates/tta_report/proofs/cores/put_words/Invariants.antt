use Rattle.std.proofs.Common.{◌≡◌, drop}
use Rattle.tta_report.specs.Lines.{lines_text, word_lines}
use Rattle.tta_report.proofs.Puts.{HasPut}
use Rattle.tta_report.proofs.cores.put_words.Given as goal

abbrev pub invariant-words : goal.invariant-words
invariant-words g l = record {
  put : HasPut (g.S.Sink.output l.initial.sink).taken (g.S.Sink.output l.sink).taken
      (lines_text (word_lines l.words)) (lines_text (word_lines (drop l.word-index l.words)));
  faults : (g.S.Sink.output l.sink).faults ≡ (g.S.Sink.output l.initial.sink).faults;
}
