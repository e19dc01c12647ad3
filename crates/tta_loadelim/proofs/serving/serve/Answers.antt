use Rattle.std.proofs.Common.{refl}
use Rattle.tta_loadelim.proofs.Walks.{worked_begin, worked_stays, worked_more, worked_done}
use Rattle.tta_loadelim.proofs.serving.serve.Goals as goal

pub loop-i-init : goal.loop-i-init
loop-i-init c = rw c.in_ok-out.ensures.items (worked_begin c.args.plan.now.on.now.machine.now c.args.fresh.now c.args.items.now c.new-known.result (c.new-known.ensures c.args.plan.now.on.now.machine.now))

pub returns : goal.returns
returns c = worked_done c.args.plan.now.on.now.machine.now c.args.fresh.now c.args.items.now c.loop-i.known c.loop-i.out.items c.loop-i.i c.loop-i.invariant c.loop-i-test.false

pub loop-i-preserved-in_default : goal.loop-i-preserved-in_default
loop-i-preserved-in_default c =
    worked_stays c.args.plan.now.on.now.machine.now c.args.fresh.now c.args.items.now c.loop-i.known c.push_served.new.known c.loop-i.out.items c.push_served.new.out.items c.loop-i.i _ _ c.loop-i-test.true refl
    c.in_ok-push_served.ensures c.loop-i.invariant

pub loop-i-preserved : goal.loop-i-preserved
loop-i-preserved c =
    worked_more c.args.plan.now.on.now.machine.now c.args.fresh.now c.args.items.now c.loop-i.known c.push_served-in-loop-i.new.known c.push_served-in-loop-i-2.new.known c.loop-i.out.items c.push_served-in-loop-i.new.out.items
    c.push_served-in-loop-i-2.new.out.items c.loop-i.i c.in-Some.r _ _ c.loop-i-test.true refl c.in-Some.ensures.sure c.in-Some.ensures.one (rw c.copy_of.ensures at c.in_ok-push_served-2.ensures) c.in_ok-push_served-3.ensures
    c.loop-i.invariant
