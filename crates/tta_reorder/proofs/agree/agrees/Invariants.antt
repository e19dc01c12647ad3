use Rattle.tta_reorder.proofs.Checked.{AgreesFrom}
use Rattle.tta_reorder.proofs.agree.agrees.Given as goal

abbrev pub invariant-loop-n : goal.invariant-loop-n
invariant-loop-n l = AgreesFrom l.list.m.now l.list.parts.now l.list.items.now l.rows l.numbers l.table l.marks.items l.n-index
