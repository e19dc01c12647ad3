use Rattle.tta_ports.proofs.Transfers.{HasWritten}
use Rattle.tta_ports.proofs.transfer.write_whole.Given as goal

abbrev pub invariant-loop : goal.invariant-loop
invariant-loop g l =
    HasWritten (g.W.Write.contents l.fn.writer) (g.W.Write.contents l.writer) l.bytes l.rest
