use Rattle.tta_pretty.proofs.Pushing.{put_more, vars_more}
use Rattle.tta_pretty.proofs.words.push_params.Goals as goal

pub loop-k-preserved : goal.loop-k-preserved
loop-k-preserved c = put_more _ _ _ _ _ _ c.in_ok-push_next_var.ensures c.loop-k.invariant (vars_more c.loop-k.k)
