use Rattle.std.proofs.Common.{◌-◌, length}
use Rattle.tta_tac.proofs.Search.{IsSearch}
use Rattle.tta_tac.proofs.cycles.mark_reached.Given as goal

abbrev pub invariant-loop-next : goal.invariant-loop-next
invariant-loop-next l = IsSearch l.procs l.from l.marks.items l.found.items l.next

abbrev pub decreases-loop-next : goal.decreases-loop-next
decreases-loop-next l = length l.procs - l.next
