use Rattle.std.proofs.Common.{rules}
use Rattle.tta_ports.proofs.mem_sink.MemSinkSink.put.Goals as goal

pub returns-then-must_fail-2-clause-after : goal.returns-then-must_fail-2-clause-after
returns-then-must_fail-2-clause-after c = search rules
