use Rattle.std.proofs.Common.{◌≡◌, drop}
use Rattle.tta_net_command.specs.Cited.{lines_text, words_of, fault_by}
use Rattle.tta_report.proofs.Puts.{HasPut}
use Rattle.tta_net_command.specs.Net.{net_lines}
use Rattle.tta_net_command.proofs.report.put_net.Given as goal

abbrev pub invariant-cores : goal.invariant-cores
invariant-cores g l = record {
  core : l.core ≡ l.turn-index;
  put : HasPut (g.S.Sink.output l.initial.sink).taken (g.S.Sink.output l.sink).taken
      (lines_text (net_lines (words_of l.cluster) (fault_by l.cluster) 0 l.last))
      (lines_text (net_lines (words_of l.cluster) (fault_by l.cluster) l.core (drop l.turn-index l.last)));
  faults : (g.S.Sink.output l.sink).faults ≡ (g.S.Sink.output l.initial.sink).faults;
}
