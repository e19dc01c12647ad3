-- The codes of what can stand in an instruction's fields, and how wide each field is.
use Rattle.std.specs.Prelude.{ℕ, zero, suc, ◌+◌, ◌^◌, ◌==◌, Bool, true, false, ◌&&◌, nat_le, max, if◌then◌else◌, List, [], ◌∷◌, ◌++◌, length, map, filter, Option, Some, None, slice_get}
use Rattle.std.specs.Option.{option_map_or}
use Rattle.std.specs.List.{flat_map, enumerate_from, range_with_len, position_or_len, sum_by}
use Rattle.tta_arch.specs.declared.parts.Guard.{Guard}
use Rattle.tta_arch.specs.declared.ends.GuardRef.{GuardRef}
use Rattle.tta_arch.specs.declared.ends.Source.{Source}
use Rattle.tta_arch.specs.declared.ends.Source.TheVariants as source
use Rattle.tta_arch.specs.declared.ends.Dest.{Dest}
use Rattle.tta_arch.specs.declared.ends.Dest.TheVariants as dest
use Rattle.tta_arch.specs.Machine.{Machine}
use Rattle.tta_arch.specs.Joins.{has_bit, is_same_guard, is_source_on, is_dest_on}

-- the least number of bits from w on that can tell k codes apart
abbrev pub width_from : (tries w k : ℕ) → ℕ
width_from zero w k = w
width_from (suc tries) w k = if nat_le k (2 ^ w) then w else width_from tries (w + 1) k

-- the least number of bits that can tell k codes apart: none for one code, and none for no code
unfoldable pub width_for : ℕ → ℕ
width_for k = width_from k 0 k

-- the numbers below n
abbrev pub numbers : ℕ → List ℕ
numbers n = range_with_len 0 n

-- every source but the short words: the registers of files and of immediate units, the result ports, the return address
abbrev pub all_sources : Machine → List Source
all_sources m =
    flat_map (λ f. map (source.Reg f.0) (numbers f.1.size)) (enumerate_from 0 m.files)
    ++ flat_map (λ u. map (source.Imm u.0) (numbers u.1.size)) (enumerate_from 0 m.imms)
    ++ flat_map (λ u. option_map_or (λ r. source.Shown u.0 ∷ []) u.1.result []) (enumerate_from 0 m.units)
    ++ option_map_or (λ r. source.Ra ∷ []) m.control.ra []

-- every destination: the registers of files, each unit's operand port and its operations, and control's three
abbrev pub all_dests : Machine → List Dest
all_dests m =
    flat_map (λ f. map (dest.Reg f.0) (numbers f.1.size)) (enumerate_from 0 m.files)
    ++ flat_map (λ u. option_map_or (λ o. dest.Operand u.0 ∷ []) u.1.operand [] ++ map (dest.Trigger u.0) (numbers (length u.1.ops))) (enumerate_from 0 m.units)
    ++ dest.Jump ∷ dest.Call ∷ dest.Halt ∷ []

-- the sources of a bus, in the order of their codes from 0
abbrev pub sources_on : Machine → ℕ → List Source
sources_on m bus = filter (is_source_on m bus) (all_sources m)

-- the destinations of a bus, in the order of their codes from 1
abbrev pub dests_on : Machine → ℕ → List Dest
dests_on m bus = filter (is_dest_on m bus) (all_dests m)

-- the guards of a bus, in the order of their codes from 1
abbrev pub guards_on : Machine → ℕ → List Guard
guards_on m bus = filter (λ g. g.bus == bus) m.guards

-- ---- how wide a field is

-- how many bits tell the templates and the lack of one apart
abbrev pub template_width : Machine → ℕ
template_width m = width_for (1 + length m.templates)

-- how many bits tell the guards of a bus and the lack of one apart
abbrev pub guard_width : Machine → ℕ → ℕ
guard_width m bus = width_for (1 + length (guards_on m bus))

-- how many bits a bus's short field has
abbrev pub short_width : Machine → ℕ → ℕ
short_width m bus = option_map_or (λ b. b.short) (slice_get m.buses bus) 0

-- a source's code or a short word, whichever is longer
abbrev pub payload_width : Machine → ℕ → ℕ
payload_width m bus = max (short_width m bus) (width_for (length (sources_on m bus)))

-- how many bits tell the destinations of a bus and the lack of one apart
abbrev pub dest_width : Machine → ℕ → ℕ
dest_width m bus = width_for (1 + length (dests_on m bus))

-- a bus's guard field, source field with its tag bit, and destination field
abbrev pub bus_width : Machine → ℕ → ℕ
bus_width m bus = guard_width m bus + (1 + payload_width m bus) + dest_width m bus

-- how many bits a set of buses has
abbrev pub taken_width : Machine → (taken : ℕ) → ℕ
taken_width m taken = sum_by (λ bus. if has_bit taken bus then bus_width m bus else 0) (numbers (length m.buses))

-- how many bits an instruction has
abbrev pub word_width : Machine → ℕ
word_width m = template_width m + sum_by (bus_width m) (numbers (length m.buses))

-- ---- codes

-- whether two sources are one
abbrev pub same_source : Source → Source → Bool
same_source (source.Reg f i) (source.Reg g j) = f == g && i == j
same_source (source.Imm f i) (source.Imm g j) = f == g && i == j
same_source (source.Shown u) (source.Shown v) = u == v
same_source source.Ra source.Ra = true
same_source (source.Value a) (source.Value b) = a == b
same_source a b = false

-- whether two destinations are one
abbrev pub same_dest : Dest → Dest → Bool
same_dest (dest.Reg f i) (dest.Reg g j) = f == g && i == j
same_dest (dest.Operand u) (dest.Operand v) = u == v
same_dest (dest.Trigger u i) (dest.Trigger v j) = u == v && i == j
same_dest dest.Jump dest.Jump = true
same_dest dest.Call dest.Call = true
same_dest dest.Halt dest.Halt = true
same_dest a b = false

-- the code of a move's guard on a bus, 0 for none
abbrev pub guard_code : Machine → ℕ → Option GuardRef → ℕ
guard_code m bus None = 0
guard_code m bus (Some on) = 1 + position_or_len (λ g. is_same_guard g.on on) (guards_on m bus)

-- the code of a source on a bus
abbrev pub source_code : Machine → ℕ → Source → ℕ
source_code m bus src = position_or_len (same_source src) (sources_on m bus)

-- the code of a destination on a bus
abbrev pub dest_code : Machine → ℕ → Dest → ℕ
dest_code m bus dst = 1 + position_or_len (same_dest dst) (dests_on m bus)
