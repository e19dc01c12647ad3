-- Fields of bytes, put together from parts and taken apart.
use Rattle.std.proofs.Common.{◌≡◌, ℕ, zero, suc, ◌+◌, ◌-◌, ◌*◌, ◌/◌, ◌%◌, ◌^◌, ◌<◌, ◌≤◌, ◌==◌, Bool, List, [], ◌∷◌, ◌++◌, length, get_or, take, drop, sym, ap, ◌∙◌, arith}
use Rattle.std.proofs.lemmas.List.{length-drop, length-take-le, drop-drop, drop-append-le, take-append-le}
use Rattle.std.proofs.Math.Seq.{drop-append-add, take-add}
use Rattle.std.proofs.lemmas.Nat.{shr_high, mod_low}
use Rattle.tta_image.specs.Cited.{BusFields}
use Rattle.tta_image.specs.Bits.{bits_of}
use Rattle.tta_image.specs.declared.slots.SlotNumbers.{SlotNumbers}
use Rattle.tta_image.specs.Decoding.{bits_in, number_of, field, slot_numbers}
use Rattle.tta_image.proofs.BitLemmas.{take_left, drop_left}
use Rattle.tta_image.proofs.Unique.{length-bits_of, length-bytes}
use Rattle.tta_image.proofs.Numbers.{number_of-append, number_of-bits_of}
use Rattle.tta_image.proofs.BitsAt.{field_below}

-- ---- a field and the one after it

-- a field that goes on
pub field_joined : (bits : List Bool) (at a b : ℕ) → at + (a + b) ≤ length bits → field at (a + b) bits ≡ field at a bits * 2 ^ b + field (at + a) b bits
field_joined bits at a b room =
    let many = length-drop at bits in
    let rest = length-drop (at + a) bits in
    let count : 2 ^ length (take b (drop (at + a) bits)) ≡ 2 ^ b = ap (λ (n : ℕ). 2 ^ n) (length-take-le b (drop (at + a) bits) (omega arith)) in
    ap number_of (take-add a b (drop at bits))
    ∙ ap (λ (l : List Bool). number_of (take a (drop at bits) ++ take b l)) (drop-drop a at bits)
    ∙ number_of-append (take a (drop at bits)) (take b (drop (at + a) bits))
    ∙ ap (λ (p : ℕ). field at a bits * p + field (at + a) b bits) count

-- its high bits
pub field_high : (bits : List Bool) (at a b : ℕ) → at + (a + b) ≤ length bits → field at (a + b) bits / 2 ^ b ≡ field at a bits
field_high bits at a b room =
    let small = field_below bits (at + a) b (omega arith) in
    ap (λ (n : ℕ). n / 2 ^ b) (field_joined bits at a b room) ∙ shr_high (field at a bits) b (field (at + a) b bits) small

-- its low bits
pub field_low : (bits : List Bool) (at a b : ℕ) → at + (a + b) ≤ length bits → field at (a + b) bits % 2 ^ b ≡ field (at + a) b bits
field_low bits at a b room =
    let small = field_below bits (at + a) b (omega arith) in
    ap (λ (n : ℕ). n % 2 ^ b) (field_joined bits at a b room) ∙ mod_low (field at a bits) b (field (at + a) b bits) small

-- ---- a field within a byte

field_of_byte : (o k b : ℕ) (rest : List Bool) → o + k ≤ 8 → field o k (bits_of 8 b ++ rest) ≡ b / 2 ^ (8 - o - k) % 2 ^ k
field_of_byte o k b rest h =
    let eight = length-bits_of 8 b in
    let left = length-bits_of (8 - o) b in
    ap (λ (l : List Bool). number_of (take k l)) (drop-append-le o (bits_of 8 b) rest (omega arith))
    ∙ ap (λ (l : List Bool). number_of (take k (l ++ rest))) (drop_left o 8 b (omega arith))
    ∙ ap number_of (take-append-le k (bits_of (8 - o) b) rest (omega arith) ∙ take_left k (8 - o) b (omega arith))
    ∙ number_of-bits_of k (b / 2 ^ (8 - o - k))

pub field_in_byte : (bytes : List ℕ) (q o k : ℕ) → o + k ≤ 8 → q < length bytes → field (8 * q + o) k (bits_in bytes) ≡ get_or bytes q 0 / 2 ^ (8 - o - k) % 2 ^ k
field_in_byte [] q o k h inside = absurd (omega arith)
field_in_byte (b ∷ bs) zero o k h inside = let e : 8 * 0 + o ≡ o = omega arith in ap (λ (n : ℕ). field n k (bits_in (b ∷ bs))) e ∙ field_of_byte o k b (bits_in bs) h
field_in_byte (b ∷ bs) (suc q) o k h inside =
    let e : 8 * suc q + o ≡ 8 + (8 * q + o) = omega arith in
    ap (λ (n : ℕ). field n k (bits_in (b ∷ bs))) e
    ∙ ap (λ (l : List Bool). number_of (take k l)) (drop-append-add (bits_of 8 b) (bits_in bs) (8 * q + o))
    ∙ field_in_byte bs q o k h (omega arith)

-- the same, where the field begins after so many bits
pub field_part : (bytes : List ℕ) (at k : ℕ) → at % 8 + k ≤ 8 → at < 8 * length bytes → field at k (bits_in bytes) ≡ get_or bytes (at / 8) 0 / 2 ^ (8 - at % 8 - k) % 2 ^ k
field_part bytes at k h inside =
    let e : at ≡ 8 * (at / 8) + at % 8 = omega arith in
    ap (λ (n : ℕ). field n k (bits_in bytes)) e ∙ field_in_byte bytes (at / 8) (at % 8) k h (omega arith)

-- one part more of a field
pub number_more : (bytes : List ℕ) (at done width k number part : ℕ) → at + width ≤ 8 * length bytes → done < width → (at + done) % 8 + k ≤ 8 → done + k ≤ width
    → number ≡ field at done (bits_in bytes) → part ≡ get_or bytes ((at + done) / 8) 0 / 2 ^ (8 - (at + done) % 8 - k) % 2 ^ k
    → number * 2 ^ k + part ≡ field at (done + k) (bits_in bytes)
number_more bytes at done width k number part room more within few was is =
    let many = length-bytes bytes in
    ap (λ (n : ℕ). n * 2 ^ k + part) was
    ∙ ap (λ (n : ℕ). field at done (bits_in bytes) * 2 ^ k + n) (is ∙ sym (field_part bytes (at + done) k within (omega arith)))
    ∙ sym (field_joined (bits_in bytes) at done k (omega arith))

-- ---- a slot

-- the high and the low bits of a first field
front_high : (bits : List Bool) (n a b : ℕ) → a + b ≤ length bits → n ≡ field 0 (a + b) bits → n / 2 ^ b ≡ field 0 a bits
front_high bits n a b room is = ap (λ (k : ℕ). k / 2 ^ b) is ∙ field_high bits 0 a b (omega arith)

front_low : (bits : List Bool) (n a b : ℕ) → a + b ≤ length bits → n ≡ field 0 (a + b) bits → n % 2 ^ b ≡ field a b bits
front_low bits n a b room is =
    let e : 0 + a ≡ a = omega arith in
    ap (λ (k : ℕ). k % 2 ^ b) is ∙ field_low bits 0 a b (omega arith) ∙ ap (λ (k : ℕ). field k b bits) e

pub same_numbers : (n k : SlotNumbers) → n.guard ≡ k.guard → n.is_short ≡ k.is_short → n.payload ≡ k.payload → n.dest ≡ k.dest → n ≡ k
same_numbers n k a b c d =
    ap (λ (x : ℕ). let r : SlotNumbers = record { guard = x; is_short = n.is_short; payload = n.payload; dest = n.dest } in r) a
    ∙ ap (λ (x : Bool). let r : SlotNumbers = record { guard = k.guard; is_short = x; payload = n.payload; dest = n.dest } in r) b
    ∙ ap (λ (x : ℕ). let r : SlotNumbers = record { guard = k.guard; is_short = k.is_short; payload = x; dest = n.dest } in r) c
    ∙ ap (λ (x : ℕ). let r : SlotNumbers = record { guard = k.guard; is_short = k.is_short; payload = k.payload; dest = x } in r) d

-- the fields of a slot, taken from the number of all its bits, the last one first
pub slot_parts : (f : BusFields) (bits : List Bool) (whole above high : ℕ) (n : SlotNumbers) → f.width ≡ f.guard_width + (1 + f.payload_width) + f.dest_width → f.width ≤ length bits
    → whole ≡ field 0 f.width bits → above ≡ whole / 2 ^ f.dest_width → high ≡ above / 2 ^ f.payload_width
    → n.guard ≡ high / 2 ^ 1 → n.is_short ≡ (high % 2 ^ 1 == 1) → n.payload ≡ above % 2 ^ f.payload_width → n.dest ≡ whole % 2 ^ f.dest_width → n ≡ slot_numbers f bits
slot_parts f bits whole above high n width room is is' is'' guard short payload dest =
    let front : f.width ≡ f.guard_width + 1 + f.payload_width + f.dest_width = omega arith in
    let all = is ∙ ap (λ (w : ℕ). field 0 w bits) front in
    let first = is' ∙ front_high bits whole (f.guard_width + 1 + f.payload_width) f.dest_width (omega arith) all in
    let second = is'' ∙ front_high bits above (f.guard_width + 1) f.payload_width (omega arith) first in
    same_numbers n (slot_numbers f bits) (guard ∙ front_high bits high f.guard_width 1 (omega arith) second)
    (short ∙ ap (λ (w : ℕ). w == 1) (front_low bits high f.guard_width 1 (omega arith) second))
    (payload ∙ front_low bits above (f.guard_width + 1) f.payload_width (omega arith) first)
    (dest ∙ front_low bits whole (f.guard_width + 1 + f.payload_width) f.dest_width (omega arith) all)
