-- How long placed lists are at most, and what holds of every first fit.
use Rattle.std.specs.Prelude.{◌≡◌, ℕ, ◌+◌, ◌*◌, ◌<◌, ◌≤◌, true, max, List, [], ◌∷◌, length, Some, slice_get}
use Rattle.tta_sched.specs.Cited.{UnitOp, Machine, IsMachine, Item, Slot, PlacedItem, Placed, has_slot, is_list, fits_beside, IsFirstFit}
use Rattle.tta_arch.specs.declared.parts.Unit.{Unit as OpUnit}

-- the greatest latency of operations, at least 1
abbrev pub longest_of : List UnitOp → ℕ
longest_of [] = 1
longest_of (o ∷ os) = max o.latency (longest_of os)

-- the greatest latency of the operations of units, at least 1
abbrev pub longest_in : List OpUnit → ℕ
longest_in [] = 1
longest_in (u ∷ us) = max (longest_of u.ops) (longest_in us)

-- the greatest latency of a machine, at least 1
abbrev pub longest : Machine → ℕ
longest m = longest_in m.units

-- the room that a placed list takes at most: for each item the greatest latency and a cycle, and for the end the delay, the
-- greatest latency and two cycles
abbrev pub HasRoom : Machine → List Item → Placed → Type 0
HasRoom m items p = p.length ≤ length items * (longest m + 1) + (m.control.delay + longest m + 2)

-- an item that has a slot fits in a cycle after all items that are placed, on some slot
abbrev pub FitsAfter : Type 0
FitsAfter =
    (m : Machine) → IsMachine m → (placed : List PlacedItem) (v : Item) (cycle : ℕ) → has_slot m v ≡ true
    → ((k : ℕ) (x : PlacedItem) → slice_get placed k ≡ Some x → x.cycle < cycle) → (slot : Slot) × (fits_beside m placed v cycle slot ≡ true)

-- a first fit of a list has room
abbrev pub FirstFitHasRoom : Type 0
FirstFitHasRoom = (m : Machine) → IsMachine m → (items : List Item) (p : Placed) → is_list m items ≡ true → IsFirstFit m items p → HasRoom m items p
