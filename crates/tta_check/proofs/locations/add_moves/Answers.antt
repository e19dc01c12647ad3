use Rattle.std.proofs.Common.{arith}
use Rattle.tta_check.specs.Locations.{HasWritten}
use Rattle.tta_check.proofs.Added.{added_all}
use Rattle.tta_check.proofs.locations.add_moves.Goals as goal

pub returns : goal.returns
returns c = added_all HasWritten c.args.moves.now c.loop-slot.slot-index c.args.locations.now.items c.loop-slot.locations.items (let e = c.loop-slot-test.false in omega arith) c.loop-slot.invariant
