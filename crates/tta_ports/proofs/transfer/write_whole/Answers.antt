use Rattle.tta_ports.proofs.Transfers.{HasWritten-more}
use Rattle.tta_ports.proofs.transfer.write_whole.Goals as goal

pub loop-preserved : goal.loop-preserved
loop-preserved g c =
    HasWritten-more _ (g.W.Write.contents c.loop.writer) _ _ c.loop.rest.now c.in-Ok.count
    c.loop.invariant c.in-Ok.ensures.bound c.in-Ok.ensures.bytes
