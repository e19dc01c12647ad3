-- How an instruction is written as bits.
use Rattle.std.specs.Prelude.{ℕ, zero, suc, ◌+◌, ◌/◌, ◌%◌, ◌^◌, ◌==◌, Bool, true, false, if◌then◌else◌, List, [], ◌∷◌, ◌++◌, take, drop, replicate, Option, Some, None}
use Rattle.std.specs.List.{flat_map}
use Rattle.tta_image.specs.Cited.{Source, Machine, has_bit, short_width, template_width, guard_width, payload_width, dest_width, bus_width, taken_width, guard_code, source_code, dest_code, Move, Long, Instruction, Code, taken}
use Rattle.tta_arch.specs.declared.ends.Source.TheVariants as source

-- a number in so many bits, the highest first
abbrev pub bits_of : (width n : ℕ) → List Bool
bits_of zero n = []
bits_of (suc w) n = (n / 2 ^ w % 2 == 1) ∷ bits_of w n

-- a source field: a tag bit, and a short word in the low bits of the field or the source's code
abbrev pub source_bits : Machine → (bus : ℕ) → Source → List Bool
source_bits m bus (source.Value word) = true ∷ bits_of (payload_width m bus) (word % 2 ^ short_width m bus)
source_bits m bus src = false ∷ bits_of (payload_width m bus) (source_code m bus src)

-- a slot: the guard, source and destination fields of its move, or all zeros where it is empty
abbrev pub slot_bits : Machine → (bus : ℕ) → Option Move → List Bool
slot_bits m bus (Some v) =
    bits_of (guard_width m bus) (guard_code m bus v.guard) ++ (source_bits m bus v.src ++ bits_of (dest_width m bus) (dest_code m bus v.dst))
slot_bits m bus None = replicate (bus_width m bus) false

-- the slots from this bus on; a bus that is taken has its share of the long immediate in place of a slot
abbrev pub slots_bits : Machine → (taken : ℕ) → (long : List Bool) → (bus : ℕ) → List (Option Move) → List Bool
slots_bits m taken long bus [] = []
slots_bits m taken long bus (slot ∷ slots) =
    if has_bit taken bus
    then take (bus_width m bus) long ++ slots_bits m taken (drop (bus_width m bus) long) (bus + 1) slots
    else slot_bits m bus slot ++ slots_bits m taken long (bus + 1) slots

-- the code of a template, 0 for none
abbrev pub template_code : Option Long → ℕ
template_code None = 0
template_code (Some l) = 1 + l.template

-- the long immediate as one number in the bits of all buses that are taken
abbrev pub long_bits : Machine → (taken : ℕ) → Option Long → List Bool
long_bits m taken None = []
long_bits m taken (Some l) = bits_of (taken_width m taken) l.value

-- the bits of an instruction: the template's field, and then bus by bus
unfoldable pub instruction_bits : Machine → Instruction → List Bool
instruction_bits m i =
    bits_of (template_width m) (template_code i.long)
    ++ slots_bits m (taken m i) (long_bits m (taken m i) i.long) 0 i.moves

-- the bits of all instructions, one after another
abbrev pub code_bits : Machine → Code → List Bool
code_bits m code = flat_map (instruction_bits m) code.words
