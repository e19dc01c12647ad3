use Rattle.tta_reorder.proofs.Parting.{slots_at, slots_done}
use Rattle.tta_reorder.proofs.slots.slots_of.Goals as goal

pub loop-x-preserved : goal.loop-x-preserved
loop-x-preserved c =
    slots_at c.args.m.now c.args.items.now c.loop-x.held.items c.hold.new.held.items c.as_slice.result.now c.loop-x.slots.items c.push.new.self.items c.loop-x.x-index
    c.in-Some.part _ c.loop-x-test.true c.as_slice.ensures.value c.in-Some.ensures.few c.in-Some.ensures.slot c.in_ok-push.ensures.items c.hold.ensures c.loop-x.invariant

pub returns : goal.returns
returns c = slots_done c.args.m.now c.args.items.now c.loop-x.held.items c.loop-x.slots.items c.loop-x.x-index c.loop-x.invariant c.loop-x-test.false
