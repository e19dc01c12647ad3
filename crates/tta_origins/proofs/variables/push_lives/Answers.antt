use Rattle.tta_list.proofs.Lists.{number_more}
use Rattle.tta_origins.specs.Origins.{live_text}
use Rattle.tta_origins.proofs.variables.push_lives.Goals as goal

pub loop-x-preserved : goal.loop-x-preserved
loop-x-preserved c =
    let of = c.args.of.now in
    number_more (live_text of.m.now of.homes.now of.p.now of.lowered.now c.args.part) _ _ _ c.loop-x.x c.in_ok-push_live.ensures c.loop-x.invariant
