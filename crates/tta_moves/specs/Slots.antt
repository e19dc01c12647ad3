-- Which items a machine can carry out in one cycle, and on what.
use Rattle.std.specs.Prelude.{ℕ, ◌-◌, ◌^◌, ◌==◌, Bool, true, false, not, ◌&&◌, ◌||◌, nat_le, if◌then◌else◌, List, [], ◌∷◌, length, map, Option, Some, None, slice_get}
use Rattle.std.specs.Option.{option_map_or}
use Rattle.std.specs.List.{list_all, list_any, range_with_len}
use Rattle.tta_arch.specs.declared.parts.Template.{Template as Field}
use Rattle.tta_moves.specs.Cited.{GuardRef, Source, Dest, Machine, first_some, joins, Ends, Slots, can_move, are_different}
use Rattle.tta_arch.specs.declared.ends.Source.TheVariants as source
use Rattle.tta_moves.specs.declared.items.ItemSource.{ItemSource}
use Rattle.tta_moves.specs.declared.items.ItemSource.TheVariants.{Port, Address}
use Rattle.tta_moves.specs.declared.items.Item.{Item}
use Rattle.tta_moves.specs.declared.items.Item.TheVariants.{Move, Long}
use Rattle.tta_moves.specs.declared.items.Slot.{Slot}
use Rattle.tta_moves.specs.declared.items.Slot.TheVariants.{Bus, Template}
use Rattle.tta_moves.specs.declared.items.PlacedItem.{PlacedItem}
use Rattle.tta_moves.specs.Touches.{is_control}

-- ---- an item alone

-- A source as a bus has to carry it. An address is not known yet, so it asks for a field that holds every number below
-- 2 ^ A: that is a field that holds the greatest of them.
abbrev pub carried : Machine → ItemSource → Source
carried m (Port src) = src
carried m (Address block) = source.Value (2 ^ m.control.address - 1)

-- whether some bus joins the ends of a move, with its guard
abbrev pub joined : Machine → ItemSource → Dest → Option GuardRef → Bool
joined m src dst guard = list_any (λ bus. joins m bus (carried m src) dst guard) (range_with_len 0 (length m.buses))

-- whether a template writes an immediate register
abbrev pub fills : (unit index : ℕ) → Field → Bool
fills unit index t = t.imm == unit && t.reg == index

-- whether a slot carries an item that is alone in its cycle
abbrev pub carries : Machine → Slot → Item → Bool
carries m (Bus bus) (Move guard src dst) = joins m bus (carried m src) dst guard
carries m (Bus bus) (Long unit index value) = false
carries m (Template t) (Move guard src dst) = false
carries m (Template t) (Long unit index value) = option_map_or (fills unit index) (slice_get m.templates t) false

-- whether an item has a slot, where it is alone in its cycle
abbrev pub has_slot : Machine → Item → Bool
has_slot m (Move guard src dst) = joined m src dst guard
has_slot m (Long unit index value) = list_any (fills unit index) m.templates

-- whether a control item stands nowhere but last
abbrev pub control_is_last : List Item → Bool
control_is_last [] = true
control_is_last (x ∷ xs) = (not (is_control x) || length xs == 0) && control_is_last xs

-- how many items a list can have, 2 ^ 24
abbrev pub most_items : ℕ
most_items = 16777216

-- a list that a machine can carry out: each item has a slot, control is last, and there are not too many items
abbrev pub is_list : Machine → List Item → Bool
is_list m items = nat_le (length items) most_items && list_all (has_slot m) items && control_is_last items

-- ---- the items of a cycle

-- whether two slots cannot be used in one cycle: one bus, or two templates
abbrev pub clash : Slot → Slot → Bool
clash (Bus a) (Bus b) = a == b
clash (Bus a) (Template t) = false
clash (Template t) (Bus b) = false
clash (Template s) (Template t) = true

-- the move that an item is on a bus, if its slot is that bus
abbrev pub ends_on : Machine → (bus : ℕ) → PlacedItem → Option Ends
ends_on m bus x = on x.slot x.item where
  on : Slot → Item → Option Ends
  on (Bus b) (Move guard src dst) = if b == bus then Some (record { guard = guard; src = carried m src; dst = dst }) else None
  on s i = None

-- the buses that an item's template takes, if its slot is a template
abbrev pub taken_by : Machine → PlacedItem → Option ℕ
taken_by m x = on x.slot where
  on : Slot → Option ℕ
  on (Bus b) = None
  on (Template t) = option_map_or (λ q. Some q.buses) (slice_get m.templates t) None

-- the moves of a cycle's items by their buses
abbrev pub slots_of : Machine → List PlacedItem → Slots
slots_of m xs = map (λ bus. first_some (ends_on m bus) xs) (range_with_len 0 (length m.buses))

-- the buses that the long immediate of a cycle's items takes
abbrev pub taken_of : Machine → List PlacedItem → ℕ
taken_of m xs = option_map_or (λ buses. buses) (first_some (taken_by m) xs) 0

-- whether the machine can carry out these items in one cycle, each on its slot
unfoldable pub fits_cycle : Machine → List PlacedItem → Bool
fits_cycle m xs =
    list_all (λ x. carries m x.slot x.item) xs && are_different clash (map (λ x. x.slot) xs)
    && can_move m (taken_of m xs) (slots_of m xs)
