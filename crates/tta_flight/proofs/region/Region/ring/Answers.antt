use Rattle.std.proofs.Common.{◌≤◌, subst, arith}
use Rattle.tta_flight.specs.Rings.{rings_of}
use Rattle.tta_flight.proofs.Cells.{ring_read}
use Rattle.tta_flight.proofs.region.Region.ring.Goals as goal

pub returns-clause-at : goal.returns-clause-at
returns-clause-at c =
    (ring_read (rings_of c.self.inside.rings.items c.self.inside.cells.items c.self.inside.moving c.self.inside.fresh) c.self.invariant.apart _ _
    (rw (← c.self.view_is) at c.requires) c.index.ensures).1.at

pub returns-clause-within : goal.returns-clause-within
returns-clause-within c =
    let read =
    ring_read (rings_of c.self.inside.rings.items c.self.inside.cells.items c.self.inside.moving c.self.inside.fresh) c.self.invariant.apart _ _
    (rw (← c.self.view_is) at c.requires) c.index.ensures in
    rw (← c.self.view_is) read.1.within

pub returns-clause-few : goal.returns-clause-few
returns-clause-few c =
    let read =
    ring_read (rings_of c.self.inside.rings.items c.self.inside.cells.items c.self.inside.moving c.self.inside.fresh) c.self.invariant.apart _ _
    (rw (← c.self.view_is) at c.requires) c.index.ensures in
    omega (arith, read.1.within, c.self.invariant.apart.few)

pub returns-clause-none : goal.returns-clause-none
returns-clause-none c = λ delay soon.
    let r = rings_of c.self.inside.rings.items c.self.inside.cells.items c.self.inside.moving c.self.inside.fresh in
    let there = rw (← c.self.view_is) at c.requires in
    let read = ring_read r c.self.invariant.apart _ _ there c.index.ensures in
    rw (← c.self.view_is) (c.self.invariant.moving.empty c.args.unit delay there (subst (λ q. q.turns ≤ delay) read.0 soon))
