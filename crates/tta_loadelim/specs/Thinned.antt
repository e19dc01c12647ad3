-- Stores into slots that a list stores into again before it loads them.
use Rattle.std.specs.Prelude.{◌≡◌, ℕ, ◌==◌, Bool, true, false, not, ◌&&◌, if◌then◌else◌, List, [], ◌∷◌, Some}
use Rattle.std.specs.Option.{option_map_or}
use Rattle.std.specs.List.{list_any}
use Rattle.tta_loadelim.specs.Cited.{Machine, Item, target_of_item, starts, may_wait}
use Rattle.tta_loadelim.specs.AvailableSlots.{is_load, loaded, stored}

-- A list stores into a slot in any case before it loads the slot, and does not wait for input until then. `before` are the
-- items before the list, the newest first.
abbrev pub is_over : Machine → (slot : ℕ) → (before : List Item) → List Item → Bool
is_over m slot before [] = false
is_over m slot before (z ∷ zs) =
    if starts m is_load (target_of_item z) then option_map_or (λ w. not (w == slot)) (loaded m z) false && is_over m slot (z ∷ before) zs
    else if option_map_or (λ w. w == slot) (stored m before z) false then true
    else not (may_wait m z) && is_over m slot (z ∷ before) zs

-- a slot is one of some
abbrev pub is_in : ℕ → List ℕ → Bool
is_in v pending = list_any (λ w. w == v) pending

-- an item loads another slot, or loads nothing and takes no input
abbrev pub lets_stay : Machine → (slot : ℕ) → Item → Bool
lets_stay m slot x =
    if starts m is_load (target_of_item x) then option_map_or (λ w. not (w == slot)) (loaded m x) false else not (may_wait m x)

-- a list without some stores into slots that it stores into again
pub data AreThinned (m : Machine) : (before : List Item) → List Item → List Item → Type 0 where
  ends : (before : List Item) → AreThinned m before [] []
  stays : (before : List Item) (x : Item) (xs ys : List Item) → AreThinned m (x ∷ before) xs ys → AreThinned m before (x ∷ xs) (x ∷ ys)
  goes : (before : List Item) (x : Item) (xs ys : List Item) (slot : ℕ) → stored m before x ≡ Some slot → is_over m slot (x ∷ before) xs ≡ true → AreThinned m (x ∷ before) xs ys
      → AreThinned m before (x ∷ xs) ys
