-- What the bits of a word decode to, field by field.
use Rattle.std.specs.Prelude.{ℕ, ◌+◌, ◌-◌, ◌*◌, ◌^◌, ◌==◌, Bool, true, false, not, ◌&&◌, nat_lt, nat_le, if◌then◌else◌, List, [], ◌∷◌, ◌++◌, length, take, drop, Option, Some, None, option_map, slice_get, Result, Ok}
use Rattle.std.specs.Option.{option_map_or}
use Rattle.std.specs.List.{flat_map, position_or_len}
use Rattle.tta_image.specs.Cited.{or_refuse, GuardRef, Source, Dest, BusFields, Layout, Machine, has_bit, numbers, Move, Long, Instruction}
use Rattle.tta_parse.specs.Steps.{◌>>=◌, ◌>>?◌}
use Rattle.tta_arch.specs.declared.ends.Source.TheVariants as source
use Rattle.tta_image.specs.declared.refusal.ImageError.{ImageError}
use Rattle.tta_image.specs.declared.refusal.ImageRefusal.TheVariants.{Field}
use Rattle.tta_image.specs.declared.slots.SlotNumbers.{SlotNumbers}
use Rattle.tta_image.specs.Bits.{bits_of}
use Rattle.tta_image.specs.Refusals.{of_word}
use Rattle.tta_image.specs.Sink.{bit_value}

-- the bits of bytes, each byte's highest first
abbrev pub bits_in : List ℕ → List Bool
bits_in bytes = flat_map (bits_of 8) bytes

-- the number that bits make, the highest first
abbrev pub number_of : List Bool → ℕ
number_of [] = 0
number_of (b ∷ bits) = bit_value b * 2 ^ length bits + number_of bits

-- the number in a field: so many bits, after so many others
abbrev pub field : (at width : ℕ) → List Bool → ℕ
field at width bits = number_of (take width (drop at bits))

-- ---- slots

-- the numbers in the fields of a slot, one field after another
abbrev pub slot_numbers : BusFields → List Bool → SlotNumbers
slot_numbers f bits = record {
  guard = field 0 f.guard_width bits;
  is_short = field f.guard_width 1 bits == 1;
  payload = field (f.guard_width + 1) f.payload_width bits;
  dest = field (f.guard_width + 1 + f.payload_width) f.dest_width bits;
}

-- the guard of a code: 0 is no guard, and the guards of the bus have the codes from 1
abbrev pub decoded_guard : BusFields → ℕ → Option (Option GuardRef)
decoded_guard f code = if code == 0 then Some None else option_map (λ g. Some g.on) (slice_get f.guards (code - 1))

-- the word of a short field: in a signed field, a highest bit that is set stands for all the bits above it too
abbrev pub short_word : (signed : Bool) → (width n : ℕ) → ℕ
short_word signed width n = if signed && nat_le (2 ^ (width - 1)) n then n + (2 ^ 32 - 2 ^ width) else n

-- a source: a short word, whose field has no bit above it, or the source of a code
abbrev pub decoded_source : BusFields → (signed is_short : Bool) → (payload : ℕ) → Option Source
decoded_source f signed true payload =
    if nat_lt payload (2 ^ f.short_width) then Some (source.Value (short_word signed f.short_width payload)) else None
decoded_source f signed false payload = slice_get f.sources payload

-- the destination of a code, which is not 0
abbrev pub decoded_dest : BusFields → ℕ → Option Dest
decoded_dest f code = slice_get f.dests (code - 1)

-- a move, where each of its fields has a meaning
abbrev pub decoded_move : BusFields → (signed : Bool) → SlotNumbers → Option Move
decoded_move f signed n =
    decoded_guard f n.guard >>? λ guard. decoded_source f signed n.is_short n.payload >>? λ src. decoded_dest f n.dest >>? λ dst.
    Some (record { guard = guard; src = src; dst = dst })

-- a slot: the destination's code 0 says that it is empty, and then all its bits are 0
abbrev pub decoded_slot : BusFields → (signed : Bool) → SlotNumbers → Option (Option Move)
decoded_slot f signed n =
    if n.dest == 0
    then (if n.guard == 0 && (not n.is_short && n.payload == 0) then Some None else None)
    else option_map (λ v. Some v) (decoded_move f signed n)

-- ---- instructions

-- whether the short field of a bus is signed
abbrev pub is_signed : Machine → (bus : ℕ) → Bool
is_signed m bus = option_map_or (λ b. b.signed) (slice_get m.buses bus) false

-- the template of a code: 0 is no template, and the templates have the codes from 1
abbrev pub decoded_template : Machine → ℕ → Option (Option ℕ)
decoded_template m code = if code == 0 then Some None else if nat_lt (code - 1) (length m.templates) then Some (Some (code - 1)) else None

-- the buses that a template takes
abbrev pub taken_by : Machine → Option ℕ → ℕ
taken_by m template = option_map_or (λ t. option_map_or (λ x. x.buses) (slice_get m.templates t) 0) template 0

-- the least bus of a set
abbrev pub least_bus : Machine → (taken : ℕ) → ℕ
least_bus m taken = position_or_len (has_bit taken) (numbers (length m.buses))

-- the bits of the buses that are taken, joined, from this bus on
abbrev pub taken_bits : (taken bus : ℕ) → List BusFields → List Bool → List Bool
taken_bits taken bus [] bits = []
taken_bits taken bus (f ∷ fs) bits =
    (if has_bit taken bus then take f.width bits else []) ++ taken_bits taken (bus + 1) fs (drop f.width bits)

-- a number where it is a word
abbrev pub word_only : ℕ → Option ℕ
word_only n = if nat_lt n (2 ^ 32) then Some n else None

-- The long immediate of a template: the bits of its buses are one number, and only its low 32 bits may be set. Where
-- others are, the word is refused at the template's least bus.
abbrev pub decoded_long : Machine → (word : ℕ) → List BusFields → Option ℕ → List Bool → Result (Option Long) ImageError
decoded_long m word fs None bits = Ok None
decoded_long m word fs (Some template) bits =
    let taken = taken_by m (Some template) in
    or_refuse (of_word word Field (least_bus m taken)) (word_only (number_of (taken_bits taken 0 fs bits))) >>= λ value.
    Ok (Some (record { template = template; value = value }))

-- the slot of a bus, which is empty where the bus is taken; else its fields must have a meaning
abbrev pub decoded_bus : Machine → (word taken bus : ℕ) → BusFields → List Bool → Result (Option Move) ImageError
decoded_bus m word taken bus f bits =
    if has_bit taken bus then Ok None else or_refuse (of_word word Field bus) (decoded_slot f (is_signed m bus) (slot_numbers f bits))

-- the slots from this bus on
abbrev pub decoded_slots : Machine → (word taken bus : ℕ) → List BusFields → List Bool → Result (List (Option Move)) ImageError
decoded_slots m word taken bus [] bits = Ok []
decoded_slots m word taken bus (f ∷ fs) bits =
    decoded_bus m word taken bus f bits >>= λ slot.
    decoded_slots m word taken (bus + 1) fs (drop f.width bits) >>= λ slots. Ok (slot ∷ slots)

-- The instruction that bits begin with, as a word of an image, or its first field without a meaning: the template's
-- field comes first, for which the number of buses is reported, then the long immediate, then the slots.
unfoldable pub decoded_instruction : Machine → Layout → (word : ℕ) → List Bool → Result Instruction ImageError
decoded_instruction m l word bits =
    or_refuse (of_word word Field (length m.buses)) (decoded_template m (field 0 l.template_width bits)) >>= λ template.
    decoded_long m word l.buses template (drop l.template_width bits) >>= λ long.
    decoded_slots m word (taken_by m template) 0 l.buses (drop l.template_width bits) >>= λ moves.
    Ok (record { moves = moves; long = long })
