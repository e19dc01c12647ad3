-- The bits of a slot decode to the slot.
use Rattle.std.proofs.Common.{◌≡◌, ℕ, ◌+◌, ◌%◌, ◌^◌, ◌<◌, ◌≤◌, ◌==◌, Bool, true, false, List, ◌∷◌, ◌++◌, length, Option, Some, None, option_map, refl, ap, ◌∙◌, arith}
use Rattle.std.proofs.lemmas.Bool.{false_from_ne_true, eqb-true, lt-ltb}
use Rattle.std.proofs.lemmas.Nat.{mod_below, pow_pos}
use Rattle.tta_parse.specs.Steps.{◌>>?◌}
use Rattle.tta_image.specs.Cited.{GuardRef, Source, Dest, Machine, is_source_on, width_for, guards_on, sources_on, dests_on, short_width, guard_width, payload_width, dest_width, guard_code, source_code, dest_code, fields_of, IsMachine, Move}
use Rattle.tta_arch.specs.declared.ends.Source.TheVariants as source
use Rattle.tta_arch.proofs.Widths.{width_for-enough, pow_le}
use Rattle.tta_image.specs.declared.slots.SlotNumbers.{SlotNumbers}
use Rattle.tta_image.specs.Bits.{bits_of, source_bits, slot_bits}
use Rattle.tta_image.specs.Decoding.{slot_numbers, decoded_source, decoded_dest, decoded_move, decoded_slot, is_signed}
use Rattle.tta_image.proofs.EndsLemmas.{guard_code_inside, source_code_inside, dest_code_inside}
use Rattle.tta_image.proofs.SlotLemmas.{is_joined_slot, Joined, joined_parts}
use Rattle.tta_image.proofs.CodesDecoded.{decoded_guard-code, decoded_source-code, decoded_dest-code}
use Rattle.tta_image.proofs.ShortDecoded.{value_decoded}
use Rattle.tta_image.proofs.SlotsDecoded.{bits_of_numbers, empty_bits, Fit, numbers_of_bits}

-- ---- the numbers of a slot

-- whether a source is a short word, as the tag bit of its field says
abbrev is_short_source : Source → Bool
is_short_source (source.Value word) = true
is_short_source src = false

-- the number after the tag bit of a source field: the low bits of a short word, or the code of the source
abbrev payload_of : Machine → (bus : ℕ) → Source → ℕ
payload_of m bus (source.Value word) = word % 2 ^ short_width m bus
payload_of m bus src = source_code m bus src

-- the numbers in the fields of a slot, all of them 0 where it is empty
abbrev numbers_of_slot : Machine → (bus : ℕ) → Option Move → SlotNumbers
numbers_of_slot m bus None = record { guard = 0; is_short = false; payload = 0; dest = 0 }
numbers_of_slot m bus (Some v) = record {
  guard = guard_code m bus v.guard;
  is_short = is_short_source v.src;
  payload = payload_of m bus v.src;
  dest = dest_code m bus v.dst;
}

source_bits_of : (m : Machine) (bus : ℕ) (src : Source) → source_bits m bus src ≡ is_short_source src ∷ bits_of (payload_width m bus) (payload_of m bus src)
source_bits_of m bus (source.Reg f i) = refl
source_bits_of m bus (source.Imm u i) = refl
source_bits_of m bus (source.Shown u) = refl
source_bits_of m bus source.Ra = refl
source_bits_of m bus (source.Value w) = refl

slot_bits_of : (m : Machine) (bus : ℕ) (slot : Option Move) → slot_bits m bus slot ≡ bits_of_numbers (fields_of m bus) (numbers_of_slot m bus slot)
slot_bits_of m bus None = empty_bits m bus (numbers_of_slot m bus None) refl refl refl refl
slot_bits_of m bus (Some v) =
    ap (λ (l : List Bool). bits_of (guard_width m bus) (guard_code m bus v.guard) ++ (l ++ bits_of (dest_width m bus) (dest_code m bus v.dst))) (source_bits_of m bus v.src)

-- ---- they fit

code_fits : (codes width code : ℕ) → code < codes → width_for codes ≤ width → code < 2 ^ width
code_fits codes width code h wide =
    let enough = width_for-enough codes in let more = pow_le (width_for codes) width wide in omega arith

payload_fits : (m : Machine) (bus : ℕ) (src : Source) → is_source_on m bus src ≡ true → payload_of m bus src < 2 ^ payload_width m bus
payload_fits m bus (source.Reg f i) h = code_fits (length (sources_on m bus)) (payload_width m bus) (source_code m bus (source.Reg f i)) (source_code_inside m bus (source.Reg f i) h) (omega arith)
payload_fits m bus (source.Imm u i) h = code_fits (length (sources_on m bus)) (payload_width m bus) (source_code m bus (source.Imm u i)) (source_code_inside m bus (source.Imm u i) h) (omega arith)
payload_fits m bus (source.Shown u) h = code_fits (length (sources_on m bus)) (payload_width m bus) (source_code m bus (source.Shown u)) (source_code_inside m bus (source.Shown u) h) (omega arith)
payload_fits m bus source.Ra h = code_fits (length (sources_on m bus)) (payload_width m bus) (source_code m bus source.Ra) (source_code_inside m bus source.Ra h) (omega arith)
payload_fits m bus (source.Value w) h =
    let below = mod_below w (2 ^ short_width m bus) (pow_pos (short_width m bus)) in
    let more = pow_le (short_width m bus) (payload_width m bus) (omega arith) in
    omega arith

numbers_fit : (m : Machine) (bus : ℕ) (slot : Option Move) → is_joined_slot m bus slot ≡ true → Fit (fields_of m bus) (numbers_of_slot m bus slot)
numbers_fit m bus None h =
    record { guard = pow_pos (guard_width m bus); payload = pow_pos (payload_width m bus); dest = pow_pos (dest_width m bus) }
numbers_fit m bus (Some v) h =
    let j = joined_parts m bus v h in
    record {
      guard = code_fits (1 + length (guards_on m bus)) (guard_width m bus) (guard_code m bus v.guard) (guard_code_inside m bus v.guard j.2) (omega arith);
      payload = payload_fits m bus v.src j.0;
      dest = code_fits (1 + length (dests_on m bus)) (dest_width m bus) (dest_code m bus v.dst) (dest_code_inside m bus v.dst j.1) (omega arith);
    }

-- ---- they decode to the slot

decoded_source_of_numbers : (m : Machine) (bus : ℕ) (src : Source) → IsMachine m → is_source_on m bus src ≡ true
    → decoded_source (fields_of m bus) (is_signed m bus) (is_short_source src) (payload_of m bus src) ≡ Some src
decoded_source_of_numbers m bus (source.Reg f i) rules h = decoded_source-code m bus (source.Reg f i) h
decoded_source_of_numbers m bus (source.Imm u i) rules h = decoded_source-code m bus (source.Imm u i) h
decoded_source_of_numbers m bus (source.Shown u) rules h = decoded_source-code m bus (source.Shown u) h
decoded_source_of_numbers m bus source.Ra rules h = decoded_source-code m bus source.Ra h
decoded_source_of_numbers m bus (source.Value w) rules h =
    let below = mod_below w (2 ^ short_width m bus) (pow_pos (short_width m bus)) in
    rw (lt-ltb (w % 2 ^ short_width m bus) (2 ^ short_width m bus) below) (ap (λ (x : ℕ). Some (source.Value x)) (value_decoded m bus w rules.buses h))

decoded_move_of_numbers : (m : Machine) (bus : ℕ) (v : Move) → IsMachine m → Joined m bus v
    → decoded_move (fields_of m bus) (is_signed m bus) (numbers_of_slot m bus (Some v)) ≡ Some v
decoded_move_of_numbers m bus v rules j =
    ap (λ (g : Option (Option GuardRef)). g >>? λ guard. decoded_source (fields_of m bus) (is_signed m bus) (is_short_source v.src) (payload_of m bus v.src) >>? λ src.
    decoded_dest (fields_of m bus) (dest_code m bus v.dst) >>? λ dst. Some (record { guard = guard; src = src; dst = dst })) (decoded_guard-code m bus v.guard j.2)
    ∙ ap (λ (s : Option Source). s >>? λ src. decoded_dest (fields_of m bus) (dest_code m bus v.dst) >>? λ dst. Some (record { guard = v.guard; src = src; dst = dst })) (decoded_source_of_numbers m bus v.src rules j.0)
    ∙ ap (λ (d : Option Dest). d >>? λ dst. Some (record { guard = v.guard; src = v.src; dst = dst })) (decoded_dest-code m bus v.dst j.1)

decoded_slot_of_numbers : (m : Machine) (bus : ℕ) (slot : Option Move) → IsMachine m → is_joined_slot m bus slot ≡ true
    → decoded_slot (fields_of m bus) (is_signed m bus) (numbers_of_slot m bus slot) ≡ Some slot
decoded_slot_of_numbers m bus None rules h = refl
decoded_slot_of_numbers m bus (Some v) rules h =
    let some : (dest_code m bus v.dst == 0) ≡ false = false_from_ne_true (dest_code m bus v.dst == 0) (λ e. let z = eqb-true (dest_code m bus v.dst) 0 e in absurd (omega arith)) in
    rw some (ap (λ (o : Option Move). option_map (λ w. Some w) o) (decoded_move_of_numbers m bus v rules (joined_parts m bus v h)))

-- bits that begin with those of a slot decode to it
pub decoded_slot-bits_of : (m : Machine) (bus : ℕ) (slot : Option Move) (rest : List Bool) → IsMachine m → is_joined_slot m bus slot ≡ true
    → decoded_slot (fields_of m bus) (is_signed m bus) (slot_numbers (fields_of m bus) (slot_bits m bus slot ++ rest)) ≡ Some slot
decoded_slot-bits_of m bus slot rest rules h =
    ap (λ (l : List Bool). decoded_slot (fields_of m bus) (is_signed m bus) (slot_numbers (fields_of m bus) (l ++ rest))) (slot_bits_of m bus slot)
    ∙ ap (λ (n : SlotNumbers). decoded_slot (fields_of m bus) (is_signed m bus) n) (numbers_of_bits (fields_of m bus) (numbers_of_slot m bus slot) rest (numbers_fit m bus slot h))
    ∙ decoded_slot_of_numbers m bus slot rules h
