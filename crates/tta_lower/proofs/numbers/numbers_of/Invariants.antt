use Rattle.tta_lower.specs.Tables.{HasNumbers}
use Rattle.tta_lower.proofs.numbers.numbers_of.Given as goal

abbrev pub invariant-loop-k : goal.invariant-loop-k
invariant-loop-k l = HasNumbers l.p l.parts l.numbers l.k
