-- The steps of first fit.
use Rattle.std.specs.Prelude.{◌≡◌, ℕ, ◌<◌, ◌≤◌, Bool, true, false, not, List, [], ◌∷◌, ◌++◌, Option, Some, None}
use Rattle.std.specs.List.{list_all}
use Rattle.tta_sched.specs.Cited.{Machine, Item, Slot, PlacedItem, is_control, least, fits_beside, FitsFirst, Kept, end_of, Stands, Row, StandsFor}

-- whether no control item is placed
abbrev pub no_control : List PlacedItem → Bool
no_control placed = list_all (λ x. not (is_control x.item)) placed

-- both tables stand for the placed items
pub record Keeps (m : Machine) (kept : Kept) (rows : List Row) (placed : List PlacedItem) : Type 0 where
  pub bounds : Stands kept m placed
  pub table : StandsFor rows m placed

-- An item is to be placed: the table stands for the items before it, which are no control items, and they allow it this cycle
-- at the least.
pub record Asks (m : Machine) (rows : List Row) (placed : List PlacedItem) (v : Item) (start : ℕ) : Type 0 where
  pub table : StandsFor rows m placed
  pub controls : no_control placed ≡ true
  pub from : start ≡ least m placed v

-- an item stands before an end, where it fits first
pub record StandsFirst (m : Machine) (placed : List PlacedItem) (v : Item) (end : ℕ) (x : PlacedItem) : Type 0 where
  pub item : x.item ≡ v
  pub within : x.cycle < end
  pub first : FitsFirst m placed x

-- the search for the cycle of an item, up to an end: where it fits first, none where it fits in no cycle
abbrev pub FindsFirst : Machine → List PlacedItem → Item → (end : ℕ) → Option PlacedItem → Type 0
FindsFirst m placed v end (Some x) = StandsFirst m placed v end x
FindsFirst m placed v end None = (cycle : ℕ) (slot : Slot) → least m placed v ≤ cycle → cycle < end → fits_beside m placed v cycle slot ≡ false

-- the placed items have one item more, which stands where it fits first, no later than the others are over
pub record AddsFirst (m : Machine) (placed : List PlacedItem) (v : Item) (more : List PlacedItem) : Type 0 where
  pub last : PlacedItem
  pub item : last.item ≡ v
  pub first : FitsFirst m placed last
  pub soon : last.cycle ≤ end_of m placed
  pub longer : more ≡ placed ++ last ∷ []
