use Rattle.std.proofs.Common.{Bool, ◌++◌, ap, ◌∙◌}
use Rattle.tta_stages.specs.Cited.{live_before}
use Rattle.tta_stages.specs.Words.{var_if}
use Rattle.tta_stages.proofs.text.program.push_all_before.Goals as goal
use Rattle.tta_list.proofs.Lists.{number_more}

pub loop-x-preserved : goal.loop-x-preserved
loop-x-preserved c =
    let put = c.in_ok-push_var_if.ensures ∙ ap (λ (t : Bool). c.loop-x.out.items ++ var_if t c.loop-x.x) c.before-in-loop-x.ensures in
    number_more (λ x. var_if (live_before c.args.live.now c.args.owner c.args.step x) x) _ _ _ c.loop-x.x put c.loop-x.invariant
