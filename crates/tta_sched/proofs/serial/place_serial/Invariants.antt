use Rattle.std.proofs.Common.{◌≡◌, ℕ, ◌*◌, ◌≤◌, map, take, Some}
use Rattle.std.specs.Prelude.{slice_get}
use Rattle.tta_sched.specs.Cited.{PlacedItem, end_of}
use Rattle.tta_sched.specs.Serial.{StandsAlone}
use Rattle.tta_sched.proofs.serial.place_serial.Given as goal

abbrev pub invariant-loop-x : goal.invariant-loop-x
invariant-loop-x l = record {
  order : map (λ y. y.item) l.placed ≡ take l.x-index l.b.items;
  alone : (k : ℕ) (y : PlacedItem) → slice_get l.placed k ≡ Some y → StandsAlone l.m (take k l.placed) y;
  end : l.cycle ≡ end_of l.m l.placed;
  few : l.cycle ≤ 255 * l.x-index;
}
