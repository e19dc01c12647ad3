use Rattle.std.proofs.Common.{◌≡◌, ◌∙◌, ap}
use Rattle.std.specs.Prelude.{nat_le}
use Rattle.tta_flight.specs.Rings.{rings_of, ring_of, place_of}
use Rattle.tta_flight.proofs.Cells.{ring_read}
use Rattle.tta_flight.proofs.Turned.{turned_ring}
use Rattle.tta_flight.proofs.region.Region.take.Goals as goal

pub invariant_of-self : goal.invariant_of-self
invariant_of-self c =
    let r = (rings_of c.self.inside.rings.items c.self.inside.cells.items c.self.inside.moving c.self.inside.fresh) in
    let there = rw (← c.self.view_is) at c.requires in
    let ring : c.ring-ring.result ≡ ring_of r c.args.unit = rw (← c.self.view_is) at c.ring-ring.ensures.ring in
    (turned_ring r c.self.invariant c.args.unit _ there (nat_le c.ring-ring.result.turns 1) _ _ _
    (ring_read r c.self.invariant.apart _ _ there c.index_mut-2.ensures.value).0 (c.next-next.ensures ∙ ap (λ q. place_of q 0) ring) c.turn.ensures
    (ap (λ q. nat_le q.turns 1) ring) c.remove_if.ensures).0

pub returns-clause-turned : goal.returns-clause-turned
returns-clause-turned c =
    let r = (rings_of c.self.inside.rings.items c.self.inside.cells.items c.self.inside.moving c.self.inside.fresh) in
    let there = rw (← c.self.view_is) at c.requires in
    let ring : c.ring-ring.result ≡ ring_of r c.args.unit = rw (← c.self.view_is) at c.ring-ring.ensures.ring in
    let made =
    turned_ring r c.self.invariant c.args.unit _ there (nat_le c.ring-ring.result.turns 1) _ _ _
    (ring_read r c.self.invariant.apart _ _ there c.index_mut-2.ensures.value).0 (c.next-next.ensures ∙ ap (λ q. place_of q 0) ring) c.turn.ensures
    (ap (λ q. nat_le q.turns 1) ring) c.remove_if.ensures in
    rw (← c.self.view_is) made.1
