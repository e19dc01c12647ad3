use Rattle.tta_flight.proofs.Carved.{length-rings_from, longest-rings_from}
use Rattle.tta_flight.proofs.First.{first_region, first_stands}
use Rattle.tta_flight.proofs.region.Region.new.Goals as goal

pub invariant_of-result : goal.invariant_of-result
invariant_of-result c =
    rw (c.in_ok-rings.ensures, c.in_ok-cells.ensures)
    (first_region c.args.longest.now c.size.result _ _ c.size.ensures.size c.size.ensures.few c.requires c.none.ensures)

pub returns-clause-units : goal.returns-clause-units
returns-clause-units c = rw c.in_ok-rings.ensures (length-rings_from 0 c.args.longest.now)

pub returns-clause-longest : goal.returns-clause-longest
returns-clause-longest c = λ unit. rw c.in_ok-rings.ensures (longest-rings_from 0 c.args.longest.now unit)

pub returns-clause-none : goal.returns-clause-none
returns-clause-none c = λ moment.
    rw (c.in_ok-rings.ensures, c.in_ok-cells.ensures) (first_stands c.args.longest.now c.size.result _ _ moment)
