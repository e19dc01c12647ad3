use Rattle.std.proofs.Common.{◌+◌, ◌-◌, ◌*◌, arith}
use Rattle.tta_flight.specs.Rings.{nearest}
use Rattle.tta_flight.proofs.Stepped.{advanced_over}
use Rattle.tta_flight.proofs.region.Region.walk.Goals as goal

pub turn-requires-clause-there : goal.turn-requires-clause-there
turn-requires-clause-there c = λ unit here is. omega (arith, c.requires.there unit here is, c.pass.ensures.units)

pub turn-requires-clause-over : goal.turn-requires-clause-over
turn-requires-clause-over c = λ unit here is. c.pass.ensures.none unit here is

pub returns : goal.returns
returns c = λ base end order are.
    advanced_over (nearest base end (64 * c.args.number)) (nearest base end (64 * c.args.number + 64) - nearest base end (64 * c.args.number)) c.args.self.now _ _
    (c.pass.ensures.over base end order are) (c.turn.ensures base end order are)
