use Rattle.tta_pretty.proofs.Pushing.{put_more, srcs_at}
use Rattle.tta_pretty.proofs.words.push_srcs.Goals as goal

pub loop-s-preserved : goal.loop-s-preserved
loop-s-preserved c = put_more _ _ _ _ _ _ c.in_ok-push_next_src.ensures c.loop-s.invariant (srcs_at c.args.ss.now c.loop-s.s-index _ c.loop-s-test.true)
