-- Where control stands in a list, read from its begin.
use Rattle.std.proofs.Common.{◌≡◌, ℕ, ◌+◌, ◌<◌, List, length, get_or, drop, refl, drop-cons, add-one}
use Rattle.std.specs.Prelude.{◌&&◌, ◌||◌, ◌==◌, not}
use Rattle.tta_moves.specs.declared.items.Item.{Item}
use Rattle.tta_moves.specs.Touches.{is_control}
use Rattle.tta_moves.specs.Slots.{control_is_last}

-- the items from a place on, by the first of them
pub last_from : (items : List Item) (i : ℕ) (d : Item) → i < length items
    → control_is_last (drop i items) ≡ ((not (is_control (get_or items i d)) || length (drop (i + 1) items) == 0) && control_is_last (drop (i + 1) items))
last_from items i d h = rw (add-one, drop-cons items i d) refl
