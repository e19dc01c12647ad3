use Rattle.std.proofs.Common.{◌≡◌, drop}
use Rattle.tta_report.specs.Lines.{lines_text, memory_lines}
use Rattle.tta_report.proofs.Puts.{HasPut}
use Rattle.tta_report.proofs.memory.put_memory.Given as goal

abbrev pub invariant-words : goal.invariant-words
invariant-words g l = record {
  address : l.address ≡ l.word-index;
  put : HasPut (g.S.Sink.output l.initial.sink).taken (g.S.Sink.output l.sink).taken
      (lines_text (memory_lines 0 l.words)) (lines_text (memory_lines l.address (drop l.word-index l.words)));
  faults : (g.S.Sink.output l.sink).faults ≡ (g.S.Sink.output l.initial.sink).faults;
}
