use Rattle.tta_optim.proofs.Slotted.{slotted}
use Rattle.tta_loadelim.proofs.Straightness.{detours_begin, detours_done}
use Rattle.tta_loadelim.proofs.straight.is_straight.Goals as goal

pub loop-x-init : goal.loop-x-init
loop-x-init c = detours_begin c.args.on.now.machine.now c.args.hub c.args.items.now c.in_ok-trails.trails.items (c.in_ok-trails.ensures.items_if_clones_equal (λ y h. h))

pub returns : goal.returns
returns c h =
    detours_done c.args.on.now.machine.now c.args.hub c.args.items.now c.loop-x.trails.items c.loop-x.x-index c.rules.ensures (slotted c.args.on.now.machine.now c.args.items.now c.requires) c.loop-x.invariant c.loop-x-test.false
