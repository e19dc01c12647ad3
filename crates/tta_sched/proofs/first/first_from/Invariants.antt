use Rattle.std.proofs.Common.{◌≤◌, List}
use Rattle.tta_sched.specs.Cited.{PlacedItem}
use Rattle.tta_sched.specs.First.{Asks}
use Rattle.tta_sched.proofs.Fitting.{Tried}
use Rattle.tta_sched.proofs.first.first_from.Given as goal

abbrev pub invariant-loop-cycle : goal.invariant-loop-cycle
invariant-loop-cycle l = record {
  from : l.from ≤ l.cycle;
  tried : (placed : List PlacedItem) → Asks l.on.machine.now l.table placed l.item l.from → Tried l.on.machine.now placed l.item l.from l.cycle;
}
