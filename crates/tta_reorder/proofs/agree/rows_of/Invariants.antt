use Rattle.tta_reorder.proofs.Walked.{RowsTo}
use Rattle.tta_reorder.proofs.agree.rows_of.Given as goal

abbrev pub invariant-loop-n : goal.invariant-loop-n
invariant-loop-n l = RowsTo l.m l.parts l.items l.table l.found.items l.n
