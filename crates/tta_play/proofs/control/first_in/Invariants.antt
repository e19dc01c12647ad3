use Rattle.std.proofs.Common.{◌≡◌, drop}
use Rattle.tta_play.specs.Cited.{State, Stands, first_some}
use Rattle.tta_play.specs.Controls.{control_in}
use Rattle.tta_play.proofs.control.first_in.Given as goal

abbrev pub invariant-loop-slot : goal.invariant-loop-slot
invariant-loop-slot l = (s : State) → Stands l.sim s
    → first_some (control_in s) (drop l.slot-index l.slots) ≡ first_some (control_in s) l.slots
