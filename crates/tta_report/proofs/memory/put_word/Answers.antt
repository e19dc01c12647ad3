use Rattle.std.proofs.Common.{sym}
use Rattle.tta_report.proofs.Puts.{append_known-nil}
use Rattle.tta_report.proofs.memory.put_word.Goals as goal

pub returns-then-word-eq0-clause-grows : goal.returns-then-word-eq0-clause-grows
returns-then-word-eq0-clause-grows g c = rw c.if-word-eq0.true (sym (append_known-nil (g.S.Sink.output c.args.sink.now).taken))
