-- What is told of each bus: the bits of its fields, the words that fit into its short field, and what it joins.
use Rattle.std.specs.Prelude.{ℕ, ◌+◌, ◌-◌, ◌^◌, Bool, true, false, if◌then◌else◌, List, [], ◌++◌, Some, slice_get, codes, decimal}
use Rattle.std.specs.Option.{option_map_or}
use Rattle.std.specs.List.{flat_map, enumerate_from}
use Rattle.tta_arch.specs.declared.parts.Bus.{Bus}
use Rattle.tta_arch.specs.declared.parts.File.{File}
use Rattle.tta_arch.specs.declared.parts.ImmUnit.{ImmUnit}
use Rattle.tta_arch.specs.declared.parts.Unit.{Unit as OpUnit}
use Rattle.tta_arch.specs.declared.layout.BusFields.{BusFields}
use Rattle.tta_arch.specs.Machine.{Machine}
use Rattle.tta_arch.specs.Joins.{has_socket}
use Rattle.tta_info.specs.Lines.{count_text, named_if, start_text}

-- the bits of the fields of a bus; the source's field has a tag bit before a code or a short word
unfoldable pub fields_text : (name : List ℕ) → BusFields → List ℕ
fields_text name f =
    start_text (codes "bus ") name (codes " bits ")
    ++ (decimal f.width
    ++ (count_text (codes " guard ") f.guard_width
    ++ (count_text (codes " source ") (1 + f.payload_width) ++ (count_text (codes " destination ") f.dest_width ++ codes "\n"))))

-- the least and the greatest word of a field of some bits
unfoldable pub range_text : (signed : Bool) → (bits : ℕ) → List ℕ
range_text signed bits =
    if signed
    then count_text (codes "-") (2 ^ (bits - 1)) ++ count_text (codes " to ") (2 ^ (bits - 1) - 1)
    else count_text (codes "0 to ") (2 ^ bits - 1)

-- the words that fit into the short field of a bus
unfoldable pub words_text : Bus → List ℕ
words_text b = start_text (codes "bus ") b.name (codes " words ") ++ (range_text b.signed b.short ++ codes "\n")

-- the files that a bus reads
abbrev pub files_read : Machine → (bus : ℕ) → List File → List ℕ
files_read m bus files = flat_map (λ f. named_if (has_socket m false (Some f.out) bus) f.name []) files

-- the immediate units that it reads
abbrev pub imms_read : Machine → (bus : ℕ) → List ImmUnit → List ℕ
imms_read m bus imms = flat_map (λ i. named_if (has_socket m false (Some i.out) bus) i.name []) imms

-- the units whose results it reads
abbrev pub units_read : Machine → (bus : ℕ) → List OpUnit → List ℕ
units_read m bus units = flat_map (λ q. named_if (has_socket m false q.result bus) q.name (codes ".r")) units

-- all that a bus can read
unfoldable pub sources_text : Machine → (bus : ℕ) → List ℕ
sources_text m bus =
    files_read m bus m.files
    ++ (imms_read m bus m.imms ++ (units_read m bus m.units ++ named_if (has_socket m false m.control.ra bus) (codes "gcu.ra") []))

-- the files that a bus writes
abbrev pub files_written : Machine → (bus : ℕ) → List File → List ℕ
files_written m bus files = flat_map (λ f. named_if (has_socket m true (Some f.into) bus) f.name []) files

-- the ports of a unit that it writes
unfoldable pub ports_text : Machine → (bus : ℕ) → OpUnit → List ℕ
ports_text m bus q =
    named_if (has_socket m true q.operand bus) q.name (codes ".o") ++ named_if (has_socket m true (Some q.trigger) bus) q.name (codes ".t")

-- the ports of units that it writes
abbrev pub units_written : Machine → (bus : ℕ) → List OpUnit → List ℕ
units_written m bus units = flat_map (ports_text m bus) units

-- all that a bus can write
unfoldable pub dests_text : Machine → (bus : ℕ) → List ℕ
dests_text m bus =
    files_written m bus m.files
    ++ (units_written m bus m.units ++ named_if (has_socket m true (Some m.control.trigger) bus) (codes "gcu.t") [])

-- what a bus joins
unfoldable pub joins_text : Machine → (bus : ℕ) → (name : List ℕ) → List ℕ
joins_text m bus name =
    start_text (codes "bus ") name (codes " from")
    ++ (sources_text m bus ++ (start_text (codes "\nbus ") name (codes " to") ++ (dests_text m bus ++ codes "\n")))

-- all that is told of a bus by its number
unfoldable pub bus_text : Machine → (bus : ℕ) → BusFields → Bus → List ℕ
bus_text m bus f b = fields_text b.name f ++ (words_text b ++ joins_text m bus b.name)

-- the same of the bus of a number
abbrev pub bus_at_text : Machine → (bus : ℕ) → BusFields → List ℕ
bus_at_text m bus f = option_map_or (bus_text m bus f) (slice_get m.buses bus) []

-- all that is told of the buses
abbrev pub buses_text : Machine → List BusFields → List ℕ
buses_text m fields = flat_map (λ f. bus_at_text m f.0 f.1) (enumerate_from 0 fields)
