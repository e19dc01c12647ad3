use Rattle.tta_ports.proofs.Transfers.{HasRead}
use Rattle.tta_ports.proofs.transfer.read_up_to.Given as goal

abbrev pub invariant-loop : goal.invariant-loop
invariant-loop g l =
    HasRead (g.R.Read.remaining l.fn.reader) (g.R.Read.remaining l.reader) l.bytes.items l.limit
