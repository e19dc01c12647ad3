use Rattle.std.proofs.Common.{arith}
use Rattle.tta_tacrun.proofs.Entered.{entered_kept, entered_calls}
use Rattle.tta_tacrun.proofs.Kept.{has_room}
use Rattle.tta_tacrun.proofs.calls.Calls.enter.Goals as goal

pub push_reserved-requires : goal.push_reserved-requires
push_reserved-requires c = omega (arith, has_room _ _ _ _ c.self.invariant)

pub invariant_of-self : goal.invariant_of-self
invariant_of-self c =
    let there = rw (← c.self.view_is) at c.requires.there in
    let fresh = rw (← c.self.view_is) at c.requires.fresh in
    entered_kept c.self.inside.variables.items c.self.inside.top c.self.inside.callers.items _ c.args.callee c.self.invariant there fresh
    c.pass.new.variables.items c.push_reserved.new.self.items _ _ c.pass.ensures c.push_reserved.ensures.items c.push_reserved.ensures.capacity

pub returns : goal.returns
returns c =
    let there = rw (← c.self.view_is) at c.requires.there in
    let fresh = rw (← c.self.view_is) at c.requires.fresh in
    let fit = rw (← c.self.view_is) at c.requires.fit in
    rw (← c.self.view_is)
    (entered_calls c.self.inside.variables.items c.self.inside.top c.self.inside.callers.items _ c.args.callee c.self.invariant there fresh
    c.pass.new.variables.items c.push_reserved.new.self.items c.args.args.now fit c.pass.ensures c.push_reserved.ensures.items)
