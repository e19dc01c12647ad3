use Rattle.tta_build.proofs.EachBlock.{AreSoFar}
use Rattle.tta_build.proofs.best_candidate.place_each.Given as goal

abbrev pub invariant-loop-b : goal.invariant-loop-b
invariant-loop-b l = AreSoFar l.on.joined.machine.now l.blocks l.trails.items l.all.items l.b-index
