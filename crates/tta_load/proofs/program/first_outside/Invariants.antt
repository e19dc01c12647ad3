use Rattle.std.proofs.Common.{◌≡◌, drop}
use Rattle.tta_load.specs.Cited.{first_outside}
use Rattle.tta_load.proofs.program.first_outside.Given as goal

abbrev pub invariant-loop-datum : goal.invariant-loop-datum
invariant-loop-datum l = first_outside l.words (drop l.datum-index l.init) ≡ first_outside l.words l.init
