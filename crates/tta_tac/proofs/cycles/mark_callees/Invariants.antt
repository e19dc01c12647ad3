use Rattle.std.proofs.Common.{◌≡◌, length, take}
use Rattle.std.specs.List.{list_any}
use Rattle.tta_tac.specs.Cycles.{IsMarked, Finds}
use Rattle.tta_tac.specs.Cited.{calls_proc}
use Rattle.tta_tac.proofs.cycles.mark_callees.Given as goal

abbrev pub invariant-loop-step : goal.invariant-loop-step
invariant-loop-step l = record {
  size : length l.marks.items ≡ length l.initial.marks.items;
  marked : IsMarked l.marks.items l.found.items;
  finds : Finds (length l.initial.marks.items) (λ k. list_any (calls_proc k) (take l.step-index l.steps)) l.initial.found.items l.found.items;
}
