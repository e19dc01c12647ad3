use Rattle.std.proofs.Common.{◌≡◌, drop}
use Rattle.tta_report.specs.Lines.{lines_text}
use Rattle.tta_report.proofs.Puts.{HasPut}
use Rattle.tta_report.proofs.put.put_lines.Given as goal

abbrev pub invariant-lines : goal.invariant-lines
invariant-lines g l = record {
  put : HasPut (g.S.Sink.output l.initial.sink).taken (g.S.Sink.output l.sink).taken (lines_text l.lines) (lines_text (drop l.line-index l.lines));
  faults : (g.S.Sink.output l.sink).faults ≡ (g.S.Sink.output l.initial.sink).faults;
}
