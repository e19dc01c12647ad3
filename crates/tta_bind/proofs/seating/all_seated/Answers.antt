use Rattle.std.proofs.Common.{sym}
use Rattle.tta_bind.proofs.Walks.{seated_begin, seated_next, seated_done}
use Rattle.tta_bind.proofs.seating.all_seated.Goals as goal

pub loop-n-init : goal.loop-n-init
loop-n-init c = seated_begin c.args.seats.now c.args.items.now c.in_ok-out.out.items c.in_ok-out.ensures.items

pub loop-n-preserved : goal.loop-n-preserved
loop-n-preserved c =
    rw (c.in_ok-push.ensures.items, c.seated.ensures) (seated_next c.args.seats.now c.args.items.now c.loop-n.out.items c.loop-n.n c.in-Some-seat_at.s c.in-Some.x (sym c.in-Some.ensures) (sym c.in-Some-seat_at.ensures) c.loop-n.invariant)

pub returns : goal.returns
returns c = seated_done c.args.seats.now c.args.items.now c.loop-n.out.items c.loop-n.n c.loop-n.invariant c.loop-n-test.false
