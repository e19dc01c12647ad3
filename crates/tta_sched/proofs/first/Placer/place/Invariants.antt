use Rattle.std.proofs.Common.{◌≡◌, ℕ, ◌*◌, ◌≤◌, map, take, Some}
use Rattle.std.specs.Prelude.{slice_get}
use Rattle.tta_sched.specs.Cited.{PlacedItem, FitsFirst, end_of}
use Rattle.tta_sched.specs.First.{Keeps}
use Rattle.tta_sched.proofs.first.Placer.place.Given as goal

abbrev pub invariant-loop-x : goal.invariant-loop-x
invariant-loop-x l = record {
  keeps : Keeps l.on.machine.now l.self.bounds l.self.table l.placed;
  order : map (λ y. y.item) l.placed ≡ take l.x-index l.b.items;
  first : (k : ℕ) (y : PlacedItem) → slice_get l.placed k ≡ Some y → FitsFirst l.on.machine.now (take k l.placed) y;
  soon : end_of l.on.machine.now l.placed ≤ 16 * l.x-index;
}
