use Rattle.tta_alloc.specs.Turns.{AreInTurnOf}
use Rattle.tta_alloc.proofs.HomeLemmas.{AreGiven}
use Rattle.tta_alloc.proofs.homes.in_turn.Given as goal

abbrev pub invariant-loop-owner : goal.invariant-loop-owner
invariant-loop-owner l = AreGiven (λ q answer. AreInTurnOf q l.homes answer) l.p l.owner l.all.items
