-- When items that are taken in another order do what they did.
use Rattle.std.specs.Prelude.{◌≡◌, ◌<◌, ⊤, ℕ, zero, suc, Bool, true, false, not, if◌then◌else◌, List, [], ◌∷◌, length, map, replicate, Option, Some, None, slice_get, slice_set}
use Rattle.std.specs.Option.{option_map_or}
use Rattle.std.specs.List.{list_all}
use Rattle.tta_reorder.specs.Cited.{Machine, Item, control_is_last}
use Rattle.tta_reorder.specs.Channels.{Channel, Division, alters, asks, survives, may_wait}
use Rattle.tta_reorder.specs.Slots.{IsDivision}

-- items, each with the number that it has in the list that they come from
abbrev pub Numbered : Type 0
Numbered = List (ℕ × Item)

-- the items without their numbers
abbrev pub bare : Numbered → List Item
bare order = map (λ y. y.1) order

-- the items of numbers, of those that are numbers of items
abbrev pub picked : List Item → (numbers : List ℕ) → Numbered
picked items [] = []
picked items (n ∷ ns) = option_map_or (λ x. (n, x) ∷ picked items ns) (slice_get items n) (picked items ns)

-- ---- what an item finds

-- the number of the last of some items, the newest first, that may change what is in a channel
abbrev pub last : Machine → Division → Channel → Numbered → Option ℕ
last m d c [] = None
last m d c (y ∷ front) = if alters m d c y then Some y.0 else last m d c front

-- the same of the first n items of a list
abbrev pub last_before : Machine → Division → Channel → List Item → (n : ℕ) → Option ℕ
last_before m d c items zero = None
last_before m d c items (suc n) =
    if option_map_or (λ x. alters m d c (n, x)) (slice_get items n) false then Some n else last_before m d c items n

-- an item has its number in a list, and after these items, the newest first, it finds what the same items brought
pub record IsDrawn (m : Machine) (d : Division) (items : List Item) (front : Numbered) (y : ℕ × Item) : Type 0 where
  pub there : slice_get items y.0 ≡ Some y.1
  pub same : (c : Channel) → asks m d c y ≡ true → last m d c front ≡ last_before m d c items y.0

-- each item finds what the same items brought, and so does the next list
abbrev pub AreDrawn : Machine → Division → (live : List (ℕ × ℕ)) → List Item → (front : Numbered) → Numbered → Type 0
AreDrawn m d live items front [] = (c : Channel) → survives live c ≡ true → last m d c front ≡ last_before m d c items (length items)
AreDrawn m d live items front (y ∷ ys) = IsDrawn m d items front y × AreDrawn m d live items (y ∷ front) ys

-- each item has a number that is not marked yet, and marks it
abbrev pub AreUnmarked : (marks : List Bool) → Numbered → Type 0
AreUnmarked marks [] = ⊤
AreUnmarked marks (y ∷ ys) = (slice_get marks y.0 ≡ Some false) × AreUnmarked (slice_set marks y.0 true) ys

-- a list that never waits within
abbrev pub goes_through : Machine → List Item → Bool
goes_through m items = list_all (λ x. not (may_wait m x)) items

-- the first numbers, so many, count up from 0
abbrev pub AreInPlace : (count : ℕ) → (numbers : List ℕ) → Type 0
AreInPlace count numbers = (k : ℕ) → k < count → slice_get numbers k ≡ Some k

-- how many items of a list are the last that may wait and those before it
abbrev pub settled : Machine → List Item → ℕ
settled m [] = 0
settled m (x ∷ xs) = if goes_through m (x ∷ xs) then 0 else suc (settled m xs)

-- Items of a list, none of them twice and control last, in an order in which each finds what the same items brought, by
-- a division of the frame space that is the list's. The last that may wait and those before it stay where they are. Items may
-- be missing for which nothing asks.
pub record IsOrder (m : Machine) (live : List (ℕ × ℕ)) (items : List Item) (order : Numbered) : Type 0 where
  pub division : Division
  pub divided : IsDivision m items division
  pub front : AreInPlace (settled m items) (map (λ y. y.0) order)
  pub drawn : AreDrawn m division live items [] order
  pub once : AreUnmarked (replicate (length items) false) order
  pub control : control_is_last (bare order) ≡ true
