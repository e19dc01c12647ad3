-- What keeps the items of a cycle in places of their own.
use Rattle.std.specs.Prelude.{◌≡◌, ℕ, ◌≤◌, true, not, List}
use Rattle.std.specs.List.{list_all}
use Rattle.tta_reserve.specs.Cited.{Machine, Item, PlacedItem, is_control, in_cycle, least}
use Rattle.tta_reserve.specs.Taken.{is_apart}

-- While no control item is placed, an item goes into another place than each item of a cycle in which its bound lets it stand.
abbrev pub BoundsKeepApart : Type 0
BoundsKeepApart =
    (m : Machine) (placed : List PlacedItem) (v : Item) (cycle : ℕ) → list_all (λ y. not (is_control y.item)) placed ≡ true
    → least m placed v ≤ cycle → is_apart v (in_cycle cycle placed) ≡ true
