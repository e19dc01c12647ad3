use Rattle.tta_flight.specs.Rings.{rings_of}
use Rattle.tta_flight.proofs.Passed.{passed, passed_none}
use Rattle.tta_flight.proofs.region.Region.pass.Goals as goal

pub returns-clause-none : goal.returns-clause-none
returns-clause-none c =
    passed_none (rings_of c.self.inside.rings.items c.self.inside.cells.items c.self.inside.moving c.self.inside.fresh) c.args.number c.args.among _ c.remove_bits.ensures

pub returns-clause-over : goal.returns-clause-over
returns-clause-over c =
    rw (← c.self.view_is) (passed (rings_of c.self.inside.rings.items c.self.inside.cells.items c.self.inside.moving c.self.inside.fresh) c.args.number c.args.among _ c.remove_bits.ensures)
