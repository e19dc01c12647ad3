use Rattle.std.proofs.Common.{rules}
use Rattle.tta_ports.proofs.real_sink.RealSinkSink.put.Goals as goal

pub returns-in-Err-clause-cause : goal.returns-in-Err-clause-cause
returns-in-Err-clause-cause g c = search rules
