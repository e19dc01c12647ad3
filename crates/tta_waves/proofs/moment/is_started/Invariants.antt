use Rattle.std.proofs.Common.{◌≡◌, drop}
use Rattle.std.specs.List.{list_any}
use Rattle.tta_waves.specs.Cited.{State, HasWritten}
use Rattle.tta_waves.specs.Levels.{starts}
use Rattle.tta_waves.proofs.moment.is_started.Given as goal

abbrev pub invariant-loop-slot : goal.invariant-loop-slot
invariant-loop-slot l =
    (s : State) → HasWritten l.row s.written → list_any (starts s l.unit l.op) (drop l.slot-index l.slots) ≡ list_any (starts s l.unit l.op) l.slots
