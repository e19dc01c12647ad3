-- The placement that puts each item where it fits first.
use Rattle.std.specs.Prelude.{◌≡◌, ℕ, ◌<◌, ◌≤◌, Bool, true, false, List, [], ◌∷◌, ◌++◌, map, take, Some, slice_get}
use Rattle.tta_moves.specs.Cited.{Machine}
use Rattle.tta_moves.specs.declared.items.Item.{Item}
use Rattle.tta_moves.specs.declared.items.Slot.{Slot}
use Rattle.tta_moves.specs.declared.items.Slot.TheVariants.{Bus, Template}
use Rattle.tta_moves.specs.declared.items.PlacedItem.{PlacedItem}
use Rattle.tta_moves.specs.declared.items.Placed.{Placed}
use Rattle.tta_moves.specs.Slots.{fits_cycle}
use Rattle.tta_moves.specs.Bounds.{least, in_cycle, length_of}

-- a slot by its number: a move's is a bus, and a long immediate's a template
abbrev pub number_of : Slot → ℕ
number_of (Bus bus) = bus
number_of (Template t) = t

-- whether the machine can carry out an item in a cycle and on a slot, beside the items that are placed there
abbrev pub fits_beside : Machine → List PlacedItem → Item → (cycle : ℕ) → Slot → Bool
fits_beside m placed v cycle slot = fits_cycle m (in_cycle cycle placed ++ record { item = v; cycle = cycle; slot = slot } ∷ [])

-- An item stands where it fits first: it fits there; in no cycle before, from the least that the earlier items allow, does
-- it fit on any slot; nor in its own on a slot of a smaller number.
pub record FitsFirst (m : Machine) (placed : List PlacedItem) (x : PlacedItem) : Type 0 where
  pub bound : least m placed x.item ≤ x.cycle
  pub fits : fits_beside m placed x.item x.cycle x.slot ≡ true
  pub cycle : (c : ℕ) (slot : Slot) → least m placed x.item ≤ c → c < x.cycle → fits_beside m placed x.item c slot ≡ false
  pub slot : (slot : Slot) → number_of slot < number_of x.slot → fits_beside m placed x.item x.cycle slot ≡ false

-- the first fit of a list: each item in its order stands where it fits first beside those before it
pub record IsFirstFit (m : Machine) (items : List Item) (p : Placed) : Type 0 where
  pub order : map (λ x. x.item) p.items ≡ items
  pub first : (k : ℕ) (x : PlacedItem) → slice_get p.items k ≡ Some x → FitsFirst m (take k p.items) x
  pub long : p.length ≡ length_of m p.items
