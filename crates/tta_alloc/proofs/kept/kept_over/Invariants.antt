use Rattle.tta_alloc.proofs.KeptLemmas.{AreHeld}
use Rattle.tta_alloc.proofs.kept.kept_over.Given as goal

abbrev pub invariant-loop-at : goal.invariant-loop-at
invariant-loop-at l = AreHeld l.body l.at l.kept l.room
