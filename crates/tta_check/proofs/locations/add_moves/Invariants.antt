-- The moves so far.
use Rattle.tta_check.specs.Locations.{HasWritten}
use Rattle.tta_check.proofs.Added.{Added}
use Rattle.tta_check.proofs.locations.add_moves.Given as goal

abbrev pub invariant-loop-slot : goal.invariant-loop-slot
invariant-loop-slot l = Added HasWritten l.moves l.slot-index l.initial.locations.items l.locations.items
