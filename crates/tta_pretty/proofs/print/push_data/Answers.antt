use Rattle.tta_pretty.proofs.Pushing.{put_more, datas_at}
use Rattle.tta_pretty.proofs.print.push_data.Goals as goal

pub loop-d-preserved : goal.loop-d-preserved
loop-d-preserved c = put_more _ _ _ _ _ _ c.in_ok-push_datum.ensures c.loop-d.invariant (datas_at c.args.init.now c.loop-d.d-index _ c.loop-d-test.true)
