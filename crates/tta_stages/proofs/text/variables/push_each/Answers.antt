use Rattle.tta_stages.specs.ProgramText.{variable_text}
use Rattle.tta_stages.proofs.text.variables.push_each.Goals as goal
use Rattle.tta_list.proofs.Lists.{number_more}

pub loop-x-preserved : goal.loop-x-preserved
loop-x-preserved c =
    number_more (variable_text c.args.on.now.m.now c.args.on.now.homes.now c.args.of.now.p.now c.args.of.now.lowered.now c.args.owner c.args.first) _ _ _ c.loop-x.x c.in_ok-push_variable.ensures c.loop-x.invariant
