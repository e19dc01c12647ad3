use Rattle.tta_ifconv.proofs.Tabling.{AreMarked}
use Rattle.tta_ifconv.proofs.tables.targets_of.Given as goal

abbrev pub invariant-loop-step : goal.invariant-loop-step
invariant-loop-step l = AreMarked l.steps l.step-index l.marks.items
