use Rattle.tta_loadelim.proofs.Walks.{WorkedTo}
use Rattle.tta_loadelim.proofs.serving.serve.Given as goal

abbrev pub invariant-loop-i : goal.invariant-loop-i
invariant-loop-i l = WorkedTo l.plan.on.now.machine.now l.fresh l.items l.known l.out.items l.i
