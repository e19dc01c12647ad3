-- Whether a list is straight, by a table of the trails of all places.
use Rattle.std.specs.Prelude.{ℕ, Bool, true, false, not, ◌&&◌, ◌||◌, if◌then◌else◌, List, [], ◌∷◌, Option, Some, None, is_some, option_map, slice_get, slice_set}
use Rattle.std.specs.Option.{option_map_or}
use Rattle.tta_loadelim.specs.Cited.{Machine, ItemSource, Item, Move, Long, source_of, target_of_item, place_of_source, place_written, is_unguarded, place_number, is_port_source, is_passing, joined}
use Rattle.tta_loadelim.specs.declared.straight.Trail.{Trail}

-- a trail without a source
abbrev pub empty : Trail
empty = record { one = None; two = None; is_long = false }

-- a trail with a source before it; of more than two no more is kept than that they are more
abbrev pub longer : ItemSource → Trail → Trail
longer src t = record { one = Some src; two = t.one; is_long = t.is_long || is_some t.two }

-- the trail of the place of a source; a word and an address have none
abbrev pub trail_in : List Trail → ItemSource → Trail
trail_in trails src = option_map_or (λ n. option_map_or (λ t. t) (slice_get trails n) empty) (option_map place_number (place_of_source src)) empty

-- the trail of the place that an item writes
abbrev pub next_trail : (hub : ℕ) → List Trail → Item → Trail
next_trail hub trails x =
    if is_unguarded x then longer (source_of x) (if is_passing (Some hub) (source_of x) then trail_in trails (source_of x) else empty) else empty

-- the trails after an item
abbrev pub trails_after : Machine → (hub : ℕ) → List Trail → Item → List Trail
trails_after m hub trails x =
    option_map_or (λ n. slice_set trails n (next_trail hub trails x)) (option_map place_number (place_written m (target_of_item x))) trails

-- a move could take another source than a result port in place of its own
abbrev pub could_take : Machine → Item → Option ItemSource → Bool
could_take m x None = false
could_take m (Long unit index value) (Some src) = false
could_take m (Move guard from dst) (Some src) = not (is_port_source src) && joined m src dst guard

-- a move may be a detour
abbrev pub may_detour : Machine → (hub : ℕ) → List Trail → Item → Bool
may_detour m hub trails x =
    let t = trail_in trails (source_of x) in
    is_passing (Some hub) (source_of x) && (t.is_long || (could_take m x t.one || could_take m x t.two))

-- no move of a list may be one
abbrev pub no_detours : Machine → (hub : ℕ) → List Trail → List Item → Bool
no_detours m hub trails [] = true
no_detours m hub trails (x ∷ xs) = not (may_detour m hub trails x) && no_detours m hub (trails_after m hub trails x) xs
