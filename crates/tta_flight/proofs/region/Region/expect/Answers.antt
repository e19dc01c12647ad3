use Rattle.std.proofs.Common.{arith}
use Rattle.tta_flight.specs.Rings.{rings_of}
use Rattle.tta_flight.proofs.Begun.{begun}
use Rattle.tta_flight.proofs.Cells.{ring_read}
use Rattle.tta_flight.proofs.region.Region.expect.Goals as goal

pub invariant_of-self : goal.invariant_of-self
invariant_of-self c =
    (begun (rings_of c.self.inside.rings.items c.self.inside.cells.items c.self.inside.moving c.self.inside.fresh) c.self.invariant c.args.unit c.args.past c.args.value
    (rw (← c.self.view_is) at c.requires.unit) (rw (← c.self.view_is) at c.requires.soon) _ _ _ _ _ c.from-at.ensures
    (rw (← c.self.view_is) at c.place-cell.ensures.place) (ring_read (rings_of c.self.inside.rings.items c.self.inside.cells.items c.self.inside.moving c.self.inside.fresh) c.self.invariant.apart _ _
    (omega (arith, c.from-at.ensures, rw (← c.self.view_is) at c.requires.unit)) c.index_mut-2.ensures.value).0 c.expect.ensures c.add.ensures).0

pub returns : goal.returns
returns c =
    let made =
    begun (rings_of c.self.inside.rings.items c.self.inside.cells.items c.self.inside.moving c.self.inside.fresh) c.self.invariant c.args.unit c.args.past c.args.value
    (rw (← c.self.view_is) at c.requires.unit) (rw (← c.self.view_is) at c.requires.soon) _ _ _ _ _ c.from-at.ensures
    (rw (← c.self.view_is) at c.place-cell.ensures.place) (ring_read (rings_of c.self.inside.rings.items c.self.inside.cells.items c.self.inside.moving c.self.inside.fresh) c.self.invariant.apart _ _
    (omega (arith, c.from-at.ensures, rw (← c.self.view_is) at c.requires.unit)) c.index_mut-2.ensures.value).0 c.expect.ensures c.add.ensures in
    rw (← c.self.view_is) made.1
