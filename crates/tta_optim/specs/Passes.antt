-- What each pass makes of a list, item by item.
use Rattle.std.specs.Prelude.{ℕ, if◌then◌else◌, List, [], ◌∷◌}
use Rattle.std.specs.Option.{option_map_or}
use Rattle.tta_optim.specs.Cited.{Machine, ItemSource, Item, Move, Long, port_for, is_redundant, is_dead}

-- a move with another source
abbrev pub with_source : Item → ItemSource → Item
with_source (Move guard src dst) other = Move guard other dst
with_source (Long unit index value) other = Long unit index value

-- an item after others, the newest first, which reads the result port that it could read
abbrev pub bypassed : Machine → (before : List Item) → Item → Item
bypassed m before x = option_map_or (with_source x) (port_for m before x) x

-- each read that a result port could serve is served by it
abbrev pub bypass_items : Machine → (before : List Item) → List Item → List Item
bypass_items m before [] = []
bypass_items m before (x ∷ xs) = bypassed m before x ∷ bypass_items m (bypassed m before x ∷ before) xs

-- each move is left out that brings an operand port what it has
abbrev pub share_items : Machine → (before : List Item) → List Item → List Item
share_items m before [] = []
share_items m before (x ∷ xs) = if is_redundant m before x then share_items m before xs else x ∷ share_items m (x ∷ before) xs

-- an item before others, unless it is dead
abbrev pub with_item : Machine → (live : List (ℕ × ℕ)) → Item → List Item → List Item
with_item m live x behind = if is_dead m live x behind then behind else x ∷ behind

-- each write is left out that nothing of what stays reads
abbrev pub dead_items : Machine → (live : List (ℕ × ℕ)) → List Item → List Item
dead_items m live [] = []
dead_items m live (x ∷ xs) = with_item m live x (dead_items m live xs)

-- all three, one after another
abbrev pub optimise_items : Machine → (live : List (ℕ × ℕ)) → List Item → List Item
optimise_items m live items = dead_items m live (share_items m [] (bypass_items m [] items))
