-- What an item has on a bus and of a template, by its slot.
use Rattle.std.proofs.Common.{ℕ, Option, Some, None}
use Rattle.std.specs.Prelude.{slice_get, ◌==◌, if◌then◌else◌}
use Rattle.std.specs.Option.{option_map_or}
use Rattle.tta_moves.specs.Cited.{Machine, Ends}
use Rattle.tta_moves.specs.declared.items.Item.{Item}
use Rattle.tta_moves.specs.declared.items.Item.TheVariants as item
use Rattle.tta_moves.specs.declared.items.Slot.{Slot}
use Rattle.tta_moves.specs.declared.items.Slot.TheVariants.{Bus, Template}
use Rattle.tta_moves.specs.Slots.{carried}

-- the move of an item on a bus, by its slot
abbrev pub ends_at : Machine → (bus : ℕ) → Slot → Item → Option Ends
ends_at m bus (Bus b) (item.Move guard src dst) = if b == bus then Some (record { guard = guard; src = carried m src; dst = dst }) else None
ends_at m bus (Bus b) (item.Long unit index value) = None
ends_at m bus (Template t) i = None

-- the buses of an item's template, by its slot
abbrev pub taken_at : Machine → Slot → Option ℕ
taken_at m (Bus b) = None
taken_at m (Template t) = option_map_or (λ q. Some q.buses) (slice_get m.templates t) None
