-- What holds while walks are carried on.
use Rattle.std.proofs.Common.{length}
use Rattle.tta_check.specs.Measures.{greatest_measure}
use Rattle.tta_check.proofs.Growing.{ahead}
use Rattle.tta_check.proofs.Solving.{Solving}
use Rattle.tta_check.proofs.solve.check.Given as goal

abbrev pub invariant-loop-place : goal.invariant-loop-place
invariant-loop-place l = Solving l.m l.code l.locations.items l.table

abbrev pub decreases-loop-place : goal.decreases-loop-place
decreases-loop-place l = ahead (greatest_measure (length l.locations.items)) l.table
