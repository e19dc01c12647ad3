use Rattle.tta_alloc.proofs.EachInterval.{below_none, below_more, interval_is}
use Rattle.tta_alloc.proofs.taken.each.Goals as goal

pub loop-x-init : goal.loop-x-init
loop-x-init c = rw c.new-all.ensures.items (below_none c.args.body.now.q.now)

pub loop-x-preserved : goal.loop-x-preserved
loop-x-preserved c =
    below_more _ _ _ _ _ c.loop-x.invariant
    (rw c.interval_at.ensures (interval_is _ c.in_ok-starts.starts c.in_ok-ends.ends c.loop-x.x c.loop-x-test.true c.in_ok-starts.ensures c.in_ok-ends.ensures))
    c.in_ok-push.ensures.items
