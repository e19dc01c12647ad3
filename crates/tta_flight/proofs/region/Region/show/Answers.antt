use Rattle.tta_flight.specs.Rings.{rings_of}
use Rattle.tta_flight.proofs.Cells.{ring_read}
use Rattle.tta_flight.proofs.Shown.{shown}
use Rattle.tta_flight.proofs.region.Region.show.Goals as goal

pub invariant_of-self : goal.invariant_of-self
invariant_of-self c =
    let there = rw (← c.self.view_is) at c.requires in
    (shown (rings_of c.self.inside.rings.items c.self.inside.cells.items c.self.inside.moving c.self.inside.fresh) c.self.invariant c.args.unit c.args.value there _ c.add.ensures _ _
    (ring_read (rings_of c.self.inside.rings.items c.self.inside.cells.items c.self.inside.moving c.self.inside.fresh) c.self.invariant.apart _ _ there c.index_mut.ensures.value).0 c.show.ensures).0

pub returns : goal.returns
returns c =
    let there = rw (← c.self.view_is) at c.requires in
    let made =
    shown (rings_of c.self.inside.rings.items c.self.inside.cells.items c.self.inside.moving c.self.inside.fresh) c.self.invariant c.args.unit c.args.value there _ c.add.ensures _ _
    (ring_read (rings_of c.self.inside.rings.items c.self.inside.cells.items c.self.inside.moving c.self.inside.fresh) c.self.invariant.apart _ _ there c.index_mut.ensures.value).0 c.show.ensures in
    rw (← c.self.view_is) made.1
