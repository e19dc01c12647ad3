-- What is proved of orders: of each other order of a list's items, in which each finds what the same items brought.
use Rattle.std.specs.Prelude.{ℕ, List}
use Rattle.tta_reorder.specs.Cited.{Machine, Item, KeepsMeaning, AsksNoMore}
use Rattle.tta_reorder.specs.Orders.{Numbered, bare, IsOrder}

-- the items of a list in another order keep its meaning
abbrev pub OrdersKeep : Type 0
OrdersKeep = (m : Machine) (live : List (ℕ × ℕ)) (items : List Item) (order : Numbered) → IsOrder m live items order → KeepsMeaning m live items (bare order)

-- and ask for no more than the list
abbrev pub OrdersAskNoMore : Type 0
OrdersAskNoMore = (m : Machine) (live : List (ℕ × ℕ)) (items : List Item) (order : Numbered) → IsOrder m live items order → AsksNoMore m items (bare order)
