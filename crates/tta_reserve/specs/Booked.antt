-- What a row keeps of the items of a cycle, and for which placed items a table stands.
use Rattle.std.specs.Prelude.{◌≡◌, ℕ, ◌<◌, ◌==◌, true, false, not, nat_lt, List, length, Option, Some, None, is_some, slice_get, slice_index, replicate}
use Rattle.std.specs.List.{list_all, list_any}
use Rattle.tta_reserve.specs.Cited.{Machine, has_bit, first_some, Item, Slot, PlacedItem, fits_cycle, taken_of, ends_on, in_cycle, fits_beside, number_of}
use Rattle.tta_reserve.specs.declared.row.Row.{Row}
use Rattle.tta_reserve.specs.Taken.{file_reads, imm_reads, file_writes, is_template}

-- ---- a row

-- the row of a cycle without items
abbrev pub empty_row : Row
empty_row = record { moves = 0; taken = 0; template = false; imms = 0; reads = replicate 8 0; writes = replicate 8 0 }

-- A row keeps what the items of a cycle take: the buses with a move, the buses of the template and whether there is one, the
-- immediate units that are read, and how many moves read and write each of the eight files that a machine has at most.
pub record IsRow (m : Machine) (xs : List PlacedItem) (r : Row) : Type 0 where
  pub moves : (bus : ℕ) → has_bit r.moves bus ≡ is_some (first_some (ends_on m bus) xs)
  pub taken : r.taken ≡ taken_of m xs
  pub template : r.template ≡ list_any (λ x. is_template x.slot) xs
  pub imms : (unit : ℕ) → has_bit r.imms unit ≡ not (imm_reads m xs unit == 0)
  pub reads : (file : ℕ) → slice_index r.reads file ≡ file_reads m xs file
  pub writes : (file : ℕ) → slice_index r.writes file ≡ file_writes m xs file
  pub eight_reads : length r.reads ≡ 8
  pub eight_writes : length r.writes ≡ 8

-- ---- a table

-- A table stands for placed items where each of its rows keeps what the items of that cycle take, the machine can carry out
-- each cycle, and no item is placed past the rows.
pub record StandsFor (table : List Row) (m : Machine) (placed : List PlacedItem) : Type 0 where
  pub rows : (cycle : ℕ) (r : Row) → slice_get table cycle ≡ Some r → IsRow m (in_cycle cycle placed) r
  pub fits : (cycle : ℕ) → fits_cycle m (in_cycle cycle placed) ≡ true
  pub within : list_all (λ x. nat_lt x.cycle (length table)) placed ≡ true

-- ---- a slot for one item more

-- the least slot on which an item fits beside those of its cycle, none exactly where it fits on no slot
abbrev pub IsLeastSlot : Machine → List PlacedItem → Item → (cycle : ℕ) → Option Slot → Type 0
IsLeastSlot m placed v cycle (Some slot) =
    (fits_beside m placed v cycle slot ≡ true)
    × ((s : Slot) → number_of s < number_of slot → fits_beside m placed v cycle s ≡ false)
IsLeastSlot m placed v cycle None = (s : Slot) → fits_beside m placed v cycle s ≡ false
