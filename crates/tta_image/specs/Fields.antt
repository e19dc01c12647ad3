-- The fields of a move, read off the layout of a machine's instructions.
use Rattle.std.specs.Prelude.{ℕ, ◌+◌, ◌-◌, ◌%◌, ◌^◌, Bool, true, false, if◌then◌else◌, List, ◌∷◌, ◌++◌, take, replicate, Option, Some, None, slice_get}
use Rattle.std.specs.Option.{option_map_or}
use Rattle.std.specs.List.{position_or_len}
use Rattle.tta_image.specs.Cited.{GuardRef, Source, Dest, BusFields, Machine, is_same_guard, same_source, same_dest, Move, Long}
use Rattle.tta_arch.specs.declared.ends.Source.TheVariants as source
use Rattle.tta_image.specs.Bits.{bits_of}

-- the code of a guard on a bus, 0 for none
abbrev pub guard_number : BusFields → Option GuardRef → ℕ
guard_number f None = 0
guard_number f (Some on) = 1 + position_or_len (λ g. is_same_guard g.on on) f.guards

-- the code of a destination on a bus
abbrev pub dest_number : BusFields → Dest → ℕ
dest_number f dst = 1 + position_or_len (same_dest dst) f.dests

-- a source field
abbrev pub source_field : BusFields → Source → List Bool
source_field f (source.Value word) = true ∷ bits_of f.payload_width (word % 2 ^ f.short_width)
source_field f src = false ∷ bits_of f.payload_width (position_or_len (same_source src) f.sources)

-- the three fields of a slot
abbrev pub slot_field : BusFields → Option Move → List Bool
slot_field f (Some v) =
    bits_of f.guard_width (guard_number f v.guard) ++ (source_field f v.src ++ bits_of f.dest_width (dest_number f v.dst))
slot_field f None = replicate f.width false

-- what a bus has in an instruction: the highest bits that are left of the long immediate where it is taken, else its slot
abbrev pub bus_field : BusFields → (is_taken : Bool) → (left value : ℕ) → Option Move → List Bool
bus_field f is_taken left value slot = if is_taken then take f.width (bits_of left value) else slot_field f slot

-- how many bits of the long immediate are left after a bus
abbrev pub left_after : BusFields → (is_taken : Bool) → (left : ℕ) → ℕ
left_after f is_taken left = if is_taken then left - f.width else left

-- the buses that a long immediate's template takes, none where there is no long immediate
abbrev pub buses_of : Machine → Option Long → ℕ
buses_of m long = option_map_or (λ l. option_map_or (λ t. t.buses) (slice_get m.templates l.template) 0) long 0

-- the word of a long immediate, 0 for none
abbrev pub value_of : Option Long → ℕ
value_of long = option_map_or (λ l. l.value) long 0
