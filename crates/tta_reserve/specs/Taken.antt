-- What the items of a cycle take.
use Rattle.std.specs.Prelude.{ℕ, Bool, true, false, not, List, slice_get, count_by}
use Rattle.std.specs.Option.{option_map_or}
use Rattle.std.specs.List.{list_all}
use Rattle.tta_arch.specs.declared.parts.Template.{Template as Field}
use Rattle.tta_reserve.specs.Cited.{Machine, ends_of, same_place, reads_file, reads_imm, writes_file, Item, Move, Long, Slot, Bus, Template, PlacedItem, slots_of}

-- how many of the moves read a file
abbrev pub file_reads : Machine → List PlacedItem → (file : ℕ) → ℕ
file_reads m xs file = count_by (λ v. reads_file file v.src) (ends_of (slots_of m xs))

-- how many of the moves read an immediate unit
abbrev pub imm_reads : Machine → List PlacedItem → (unit : ℕ) → ℕ
imm_reads m xs unit = count_by (λ v. reads_imm unit v.src) (ends_of (slots_of m xs))

-- how many of the moves write a file
abbrev pub file_writes : Machine → List PlacedItem → (file : ℕ) → ℕ
file_writes m xs file = count_by (λ v. writes_file file v.dst) (ends_of (slots_of m xs))

-- whether a slot is a template
abbrev pub is_template : Slot → Bool
is_template (Bus bus) = false
is_template (Template t) = true

-- the buses that one of a machine's templates takes, none where it is not there
abbrev pub buses_of : List Field → (t : ℕ) → ℕ
buses_of templates t = option_map_or (λ q. q.buses) (slice_get templates t) 0

-- Whether two items go into one place. A long immediate goes where no move goes, and two of them never stand in one cycle.
abbrev pub meets : Item → Item → Bool
meets (Move guard src dst) (Move guard' src' dst') = same_place dst dst'
meets (Move guard src dst) (Long unit index value) = false
meets (Long unit index value) (Move guard src dst) = false
meets (Long unit index value) (Long unit' index' value') = false

-- whether an item goes into another place than each of these
abbrev pub is_apart : Item → List PlacedItem → Bool
is_apart v xs = list_all (λ y. not (meets y.item v)) xs
