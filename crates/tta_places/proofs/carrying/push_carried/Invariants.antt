use Rattle.std.proofs.Common.{◌≡◌, ◌++◌, drop}
use Rattle.std.specs.Prelude.{map}
use Rattle.tta_places.specs.Cited.{State, Stands, HasWritten}
use Rattle.tta_places.specs.Carried.{carried}
use Rattle.tta_places.proofs.carrying.push_carried.Given as goal

abbrev pub invariant-loop-slot : goal.invariant-loop-slot
invariant-loop-slot l =
    (s : State) → Stands l.sim s → HasWritten l.row s.written
    → l.words.items ++ map (carried s) (drop l.slot-index l.slots) ≡ l.initial.words.items ++ map (carried s) l.slots
