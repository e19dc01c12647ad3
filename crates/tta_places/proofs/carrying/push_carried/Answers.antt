use Rattle.std.proofs.Common.{[], ◌∷◌, ◌++◌, ap, ◌∙◌}
use Rattle.tta_places.specs.Carried.{carried}
use Rattle.tta_places.proofs.Lists.{one_on}
use Rattle.tta_places.proofs.carrying.push_carried.Goals as goal

pub loop-slot-preserved : goal.loop-slot-preserved
loop-slot-preserved c = λ s stands had.
    let old = c.loop-slot.words.items in
    let put = c.in_ok-push.ensures.items ∙ ap (λ o. old ++ o ∷ []) (c.carried.ensures s stands had) in
    one_on (carried s) c.args.slots.now c.loop-slot.slot-index _ old c.push.new.self.items _ c.loop-slot-test.true put (c.loop-slot.invariant s stands had)
