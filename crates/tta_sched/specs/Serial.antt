-- The placement of one item a cycle.
use Rattle.std.specs.Option.{option_map_or}
use Rattle.tta_sched.specs.Cited.{is_control, Machine, Item, Slot, PlacedItem, Placed, carries, length_of, number_of, end_of}
use Rattle.std.specs.Prelude.{◌≡◌, ℕ, ◌+◌, ◌-◌, ◌<◌, true, false, if◌then◌else◌, length, max, List, map, take, Some, slice_get}

-- no slot of a smaller number carries an item that is alone in its cycle
abbrev pub IsLeastAlone : Machine → Item → Slot → Type 0
IsLeastAlone m v s = (other : Slot) → number_of other < number_of s → carries m other v ≡ false

-- an item stands in the first cycle in which all items before it are over, on the least slot that carries it
pub record StandsAlone (m : Machine) (placed : List PlacedItem) (x : PlacedItem) : Type 0 where
  pub cycle : x.cycle ≡ end_of m placed
  pub carried : carries m x.slot x.item ≡ true
  pub least : IsLeastAlone m x.item x.slot

-- A serial placement has the items in their order; each stands in the first cycle in which all items before it are over; and
-- it is as long as a block of these items is.
pub record IsSerial (m : Machine) (items : List Item) (p : Placed) : Type 0 where
  pub order : map (λ x. x.item) p.items ≡ items
  pub alone : (k : ℕ) (x : PlacedItem) → slice_get p.items k ≡ Some x → StandsAlone m (take k p.items) x
  pub long : p.length ≡ length_of m p.items

-- the length of a block of these items that are over in so many cycles, one after another
abbrev pub serial_length : Machine → List Item → (end : ℕ) → ℕ
serial_length m items end = option_map_or (λ x. if is_control x then end + m.control.delay else max end 1) (slice_get items (length items - 1)) (max end 1)
