use Rattle.std.proofs.Common.{◌≡◌, drop}
use Rattle.tta_draw.specs.Cited.{first_some}
use Rattle.tta_draw.specs.Targets.{leading}
use Rattle.tta_draw.proofs.targets.jump_in.Given as goal

abbrev pub invariant-loop-slot : goal.invariant-loop-slot
invariant-loop-slot l = first_some leading (drop l.slot-index l.slots) ≡ first_some leading l.slots
