use Rattle.tta_flow.proofs.GrowthLemmas.{Absorbs}
use Rattle.tta_flow.proofs.bits.BitRow.absorb.Given as goal

abbrev pub invariant-loop-at : goal.invariant-loop-at
invariant-loop-at l = Absorbs l.other l.at l.grown l.initial.self l.self
