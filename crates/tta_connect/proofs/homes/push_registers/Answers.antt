use Rattle.tta_connect.proofs.Firsts.{registers_more}
use Rattle.tta_connect.proofs.homes.push_registers.Goals as goal

pub loop-index-preserved : goal.loop-index-preserved
loop-index-preserved c = registers_more _ _ _ c.args.file c.loop-index.index c.args.size c.loop-index-test.true c.in_ok-push.ensures.items c.loop-index.invariant
