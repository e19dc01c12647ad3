-- The least bus or template on which a row takes an item is the least slot on which the item fits.
use Rattle.std.proofs.Common.{◌≡◌, ℕ, ◌<◌, true, false, List, Option, Some, None, sym, ap, ◌∙◌}
use Rattle.std.specs.Prelude.{slice_get}
use Rattle.std.proofs.lemmas.Bool.{false_from_ne_true}
use Rattle.tta_reserve.specs.Cited.{GuardRef, Dest, Machine, IsMachine, ItemSource, LongValue, Slot, Bus, Template, PlacedItem, carried, in_cycle, fits_beside, number_of}
use Rattle.tta_moves.specs.declared.items.Item.TheVariants as item
use Rattle.tta_reserve.specs.declared.row.Row.{Row}
use Rattle.tta_reserve.specs.Taken.{is_apart}
use Rattle.tta_reserve.specs.Booked.{StandsFor, IsLeastSlot}
use Rattle.tta_reserve.specs.Leaving.{row_takes, row_fills}
use Rattle.tta_reserve.proofs.Pushed.{carried_there}
use Rattle.tta_reserve.proofs.Tells.{row_tells_of_moves, row_tells_of_longs}

-- what is known of a table and a cycle of it
pub record Known (m : Machine) (table : List Row) (placed : List PlacedItem) (r : Row) (c : ℕ) : Type 0 where
  pub rules : IsMachine m
  pub stands : StandsFor table m placed
  pub row : slice_get table c ≡ Some r

-- the same of a row that was read from the rows that a table shows
pub known_row : (m : Machine) → IsMachine m → (table rows read : List Row) (placed : List PlacedItem) (r : Row) (c : ℕ) → rows ≡ table → read ≡ rows → slice_get read c ≡ Some r
    → StandsFor table m placed → Known m table placed r c
known_row m rules table rows read placed r c shown is at stands =
    record { rules = rules; stands = stands; row = ap (λ l. slice_get l c) (sym (is ∙ shown)) ∙ at }

-- ---- a move

on_bus : (m : Machine) (table : List Row) (placed : List PlacedItem) (r : Row) (c : ℕ) → Known m table placed r c → (g : Option GuardRef) (s : ItemSource) (d : Dest)
    → is_apart (item.Move g s d) (in_cycle c placed) ≡ true → (b : ℕ) → fits_beside m placed (item.Move g s d) c (Bus b) ≡ row_takes m r b (carried m s) d g
on_bus m table placed r c k g s d apart b = row_tells_of_moves m k.rules (in_cycle c placed) b c g s d r (k.stands.rows c r k.row) (k.stands.fits c) apart

no_template : (m : Machine) (placed : List PlacedItem) (c t : ℕ) (g : Option GuardRef) (s : ItemSource) (d : Dest) → fits_beside m placed (item.Move g s d) c (Template t) ≡ false
no_template m placed c t g s d = false_from_ne_true (fits_beside m placed (item.Move g s d) c (Template t))
    (λ e. let h = carried_there m (in_cycle c placed) (record { item = item.Move g s d; cycle = c; slot = Template t }) e in cc)

pub move_some : (m : Machine) (table : List Row) (placed : List PlacedItem) (r : Row) (c : ℕ) → Known m table placed r c → (g : Option GuardRef) (s : ItemSource) (d : Dest)
    → is_apart (item.Move g s d) (in_cycle c placed) ≡ true
    → (b : ℕ) → row_takes m r b (carried m s) d g ≡ true → ((k : ℕ) → k < b → row_takes m r k (carried m s) d g ≡ false) → IsLeastSlot m placed (item.Move g s d) c (Some (Bus b))
move_some m table placed r c k g s d apart b takes least = (on_bus m table placed r c k g s d apart b ∙ takes, before) where
  before : (q : Slot) → number_of q < b → fits_beside m placed (item.Move g s d) c q ≡ false
  before (Bus j) lt = on_bus m table placed r c k g s d apart j ∙ least j lt
  before (Template t) lt = no_template m placed c t g s d

pub move_none : (m : Machine) (table : List Row) (placed : List PlacedItem) (r : Row) (c : ℕ) → Known m table placed r c → (g : Option GuardRef) (s : ItemSource) (d : Dest)
    → is_apart (item.Move g s d) (in_cycle c placed) ≡ true
    → ((k : ℕ) → row_takes m r k (carried m s) d g ≡ false) → IsLeastSlot m placed (item.Move g s d) c None
move_none m table placed r c k g s d apart none = each where
  each : (q : Slot) → fits_beside m placed (item.Move g s d) c q ≡ false
  each (Bus j) = on_bus m table placed r c k g s d apart j ∙ none j
  each (Template t) = no_template m placed c t g s d

-- ---- a long immediate

on_template : (m : Machine) (table : List Row) (placed : List PlacedItem) (r : Row) (c : ℕ) → Known m table placed r c → (unit index : ℕ) (value : LongValue)
    → (t : ℕ) → fits_beside m placed (item.Long unit index value) c (Template t) ≡ row_fills m.templates r t unit index
on_template m table placed r c k unit index value t =
    row_tells_of_longs m k.rules (in_cycle c placed) t c unit index value r (k.stands.rows c r k.row) (k.stands.fits c)

no_bus : (m : Machine) (placed : List PlacedItem) (c b unit index : ℕ) (value : LongValue) → fits_beside m placed (item.Long unit index value) c (Bus b) ≡ false
no_bus m placed c b unit index value = false_from_ne_true (fits_beside m placed (item.Long unit index value) c (Bus b))
    (λ e. let h = carried_there m (in_cycle c placed) (record { item = item.Long unit index value; cycle = c; slot = Bus b }) e in cc)

pub long_some : (m : Machine) (table : List Row) (placed : List PlacedItem) (r : Row) (c : ℕ) → Known m table placed r c → (unit index : ℕ) (value : LongValue)
    → (t : ℕ) → row_fills m.templates r t unit index ≡ true → ((k : ℕ) → k < t → row_fills m.templates r k unit index ≡ false) → IsLeastSlot m placed (item.Long unit index value) c (Some (Template t))
long_some m table placed r c k unit index value t fills least = (on_template m table placed r c k unit index value t ∙ fills, before) where
  before : (q : Slot) → number_of q < t → fits_beside m placed (item.Long unit index value) c q ≡ false
  before (Bus b) lt = no_bus m placed c b unit index value
  before (Template j) lt = on_template m table placed r c k unit index value j ∙ least j lt

pub long_none : (m : Machine) (table : List Row) (placed : List PlacedItem) (r : Row) (c : ℕ) → Known m table placed r c → (unit index : ℕ) (value : LongValue)
    → ((k : ℕ) → row_fills m.templates r k unit index ≡ false) → IsLeastSlot m placed (item.Long unit index value) c None
long_none m table placed r c k unit index value none = each where
  each : (q : Slot) → fits_beside m placed (item.Long unit index value) c q ≡ false
  each (Bus b) = no_bus m placed c b unit index value
  each (Template t) = on_template m table placed r c k unit index value t ∙ none t
