use Rattle.tta_reorder.proofs.Walked.{PartsTo}
use Rattle.tta_reorder.proofs.ends.same_parts.Given as goal

abbrev pub invariant-loop-n : goal.invariant-loop-n
invariant-loop-n l = PartsTo l.m l.parts l.items l.a l.b l.n
