use Rattle.std.proofs.Common.{◌≡◌, length}
use Rattle.tta_tac.proofs.order.walk_on.Given as goal

abbrev pub invariant-loop-time : goal.invariant-loop-time
invariant-loop-time l = length l.walk.numbers.items ≡ length l.initial.walk.numbers.items
