use Rattle.tta_pretty.specs.Cited.{stated}
use Rattle.tta_pretty.proofs.Pushing.{put_more, procs_more}
use Rattle.tta_pretty.proofs.print.push_procs.Goals as goal

pub loop-k-preserved : goal.loop-k-preserved
loop-k-preserved g c =
    let U = stated (λ v. (goal.OpUnit-dyn g v).unit_meaning v.1) c.args.units.now in
    put_more _ _ _ _ _ _ c.in_ok-push_one.ensures c.loop-k.invariant (procs_more U c.args.main c.args.procs.now c.loop-k.k c.index-procs-k.result c.loop-k-test.true c.index-procs-k.is)
