use Rattle.std.proofs.Common.{[], ◌∷◌, ◌++◌, ap, ◌∙◌}
use Rattle.tta_waves.specs.Levels.{level_in}
use Rattle.tta_places.proofs.Lists.{one_on}
use Rattle.tta_waves.proofs.levels.push_levels.Goals as goal

pub loop-signal-preserved : goal.loop-signal-preserved
loop-signal-preserved c = λ s stands had are.
    let old = c.loop-signal.levels.items in
    let put = c.in_ok-push.ensures.items ∙ ap (λ o. old ++ o ∷ []) (c.level_in.ensures s stands had are) in
    one_on (level_in c.args.m.now s c.args.at.now.slots.now) c.args.signals.now c.loop-signal.signal-index _ old c.push.new.self.items _ c.loop-signal-test.true put
    (c.loop-signal.invariant s stands had are)
