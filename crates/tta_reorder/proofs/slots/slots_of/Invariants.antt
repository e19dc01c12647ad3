use Rattle.tta_reorder.proofs.Parting.{SlotsTo}
use Rattle.tta_reorder.proofs.slots.slots_of.Given as goal

abbrev pub invariant-loop-x : goal.invariant-loop-x
invariant-loop-x l = SlotsTo l.m l.items l.held.items l.slots.items l.x-index
