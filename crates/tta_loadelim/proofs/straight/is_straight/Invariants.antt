use Rattle.tta_loadelim.proofs.Straightness.{DetoursTo}
use Rattle.tta_loadelim.proofs.straight.is_straight.Given as goal

abbrev pub invariant-loop-x : goal.invariant-loop-x
invariant-loop-x l = DetoursTo l.on.machine.now l.hub l.items l.trails.items l.x-index
