use Rattle.tta_lower.proofs.Split.{HasRoomTo}
use Rattle.tta_lower.proofs.numbers.no_rows.Given as goal

abbrev pub invariant-loop-o : goal.invariant-loop-o
invariant-loop-o l = HasRoomTo l.p l.o l.rows.items
