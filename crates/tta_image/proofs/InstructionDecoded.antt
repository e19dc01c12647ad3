-- What the bits of a word decode to is the instruction that has these bits.
use Rattle.std.proofs.Common.{◌≡◌, ℕ, zero, suc, ◌+◌, ◌-◌, ◌^◌, ◌<◌, ◌≤◌, ◌==◌, Bool, true, false, nat_lt, if◌then◌else◌, List, [], ◌∷◌, ◌++◌, length, map, take, drop, Option, Some, None, Ok, refl, sym, ap, ◌∙◌, subst, arith}
use Rattle.std.specs.List.{sum_by, range_with_len}
use Rattle.std.proofs.Math.Seq.{take-add}
use Rattle.std.proofs.lemmas.Bool.{eqb-true, both_ways, eq-eqb}
use Rattle.std.proofs.lemmas.Option.{none-some, same_Some}
use Rattle.std.proofs.lemmas.List.{length-append, length-drop, length-take-le, take_at, drop_at, nil_from_length}
use Rattle.std.proofs.lemmas.List.Sums.{sum_by-cons}
use Rattle.tta_image.specs.Cited.{or_refuse, BusFields, Machine, has_bit, numbers, template_width, bus_width, taken_width, word_width, fields_of, layout_of, IsMachine, Move, Long, Instruction}
use Rattle.tta_parse.specs.Steps.{◌>>=◌}
use Rattle.tta_parse.proofs.Steps.{then-ok, same_ok}
use Rattle.tta_arch.proofs.Layouts.{no_bus_in_none}
use Rattle.tta_image.specs.declared.refusal.ImageRefusal.TheVariants.{Field}
use Rattle.tta_image.specs.Refusals.{of_word}
use Rattle.tta_image.specs.Bits.{bits_of, slot_bits, slots_bits, template_code, long_bits, instruction_bits}
use Rattle.tta_image.specs.Fields.{buses_of}
use Rattle.tta_image.specs.Decoding.{number_of, field, slot_numbers, decoded_slot, is_signed, decoded_template, taken_by, least_bus, taken_bits, word_only, decoded_long, decoded_bus, decoded_slots, decoded_instruction}
use Rattle.tta_image.proofs.Numbers.{bits_of-number_of}
use Rattle.tta_image.proofs.InstructionLemmas.{left_from, left_taken, left_kept}
use Rattle.tta_image.proofs.SlotsDecoded.{pieces_of_slot, decoded_slot-bits}

-- ---- results that go on

pub not_refused : {A E : Type 0} (e : E) (o : Option A) (x : A) → or_refuse e o ≡ Ok x → o ≡ Some x
not_refused e None x h = absurd (cc)
not_refused e (Some y) x h = cc

-- ---- the buses

-- the fields of so many buses from one on
abbrev pub fields_from : Machine → (bus count : ℕ) → List BusFields
fields_from m bus count = map (fields_of m) (range_with_len bus count)

-- how many bits they have
abbrev pub width_of : Machine → (bus count : ℕ) → ℕ
width_of m bus count = sum_by (bus_width m) (range_with_len bus count)

-- as many bits are taken as the buses have
pub length-taken_bits : (m : Machine) (taken bus count : ℕ) (bits : List Bool) → width_of m bus count ≤ length bits
    → length (taken_bits taken bus (fields_from m bus count) bits) ≡ left_from m taken bus count
length-taken_bits m taken bus zero bits h = refl
length-taken_bits m taken bus (suc count) bits h =
    let s = sum_by-cons (bus_width m) bus (range_with_len (bus + 1) count) in
    let d = length-drop (bus_width m bus) bits in
    by (has_bit taken bus) refl (length-taken_bits m taken (bus + 1) count (drop (bus_width m bus) bits) (omega arith)) where
      by : (b : Bool) → has_bit taken bus ≡ b
          → length (taken_bits taken (bus + 1) (fields_from m (bus + 1) count) (drop (bus_width m bus) bits)) ≡ left_from m taken (bus + 1) count
          → length (taken_bits taken bus (fields_from m bus (suc count)) bits) ≡ left_from m taken bus (suc count)
      by true is rest =
          let s = sum_by-cons (bus_width m) bus (range_with_len (bus + 1) count) in
          let front : length (take (bus_width m bus) bits) ≡ bus_width m bus = length-take-le (bus_width m bus) bits (omega arith) in
          let both = length-append (take (bus_width m bus) bits) (taken_bits taken (bus + 1) (fields_from m (bus + 1) count) (drop (bus_width m bus) bits)) in
          let left = left_taken m taken bus count is in
          rw is (omega arith)
      by false is rest =
          let left = left_kept m taken bus count is in
          rw is (omega arith)

-- what is said of the buses has their bits
abbrev SlotsHave : Machine → (taken bus count : ℕ) → List Bool → List (Option Move) → Type 0
SlotsHave m taken bus count bits slots =
    (length slots ≡ count) × (slots_bits m taken (taken_bits taken bus (fields_from m bus count) bits) bus slots ≡ take (width_of m bus count) bits)

slots_have_by : (m : Machine) (word taken bus count : ℕ) (bits : List Bool) (slot : Option Move) (slots : List (Option Move)) (b : Bool) → IsMachine m
    → bus < length m.buses → width_of m bus (suc count) ≤ length bits → has_bit taken bus ≡ b → decoded_bus m word taken bus (fields_of m bus) bits ≡ Ok slot
    → SlotsHave m taken (bus + 1) count (drop (bus_width m bus) bits) slots → SlotsHave m taken bus (suc count) bits (slot ∷ slots)
slots_have_by m word taken bus count bits slot slots true rules h enough is said rest =
    let w : ℕ = bus_width m bus in
    let s = sum_by-cons (bus_width m) bus (range_with_len (bus + 1) count) in
    let front : length (take w bits) ≡ w = length-take-le w bits (omega arith) in
    let more : List Bool = taken_bits taken (bus + 1) (fields_from m (bus + 1) count) (drop w bits) in
    let many = rest.0 in (
      omega arith,
      rw is (ap (λ (l : List Bool). l ++ slots_bits m taken (drop w (take w bits ++ more)) (bus + 1) slots) (take_at (take w bits) more w front)
          ∙ ap (λ (l : List Bool). take w bits ++ slots_bits m taken l (bus + 1) slots) (drop_at (take w bits) more w front)
          ∙ ap (λ (l : List Bool). take w bits ++ l) rest.1 ∙ sym (take-add w (width_of m (bus + 1) count) bits) ∙ ap (λ (n : ℕ). take n bits) (sym s)),
    )
slots_have_by m word taken bus count bits slot slots false rules h enough is said rest =
    let w : ℕ = bus_width m bus in
    let f : BusFields = fields_of m bus in
    let s = sum_by-cons (bus_width m) bus (range_with_len (bus + 1) count) in
    let more : List Bool = taken_bits taken (bus + 1) (fields_from m (bus + 1) count) (drop w bits) in
    let own : decoded_slot f (is_signed m bus) (slot_numbers f bits) ≡ Some slot = not_refused (of_word word Field bus) (decoded_slot f (is_signed m bus) (slot_numbers f bits)) slot (rw is at said) in
    let bits_own : slot_bits m bus slot ≡ take w bits = decoded_slot-bits m bus (slot_numbers f bits) slot rules h own ∙ sym (pieces_of_slot f bits refl (omega arith)) in
    let many = rest.0 in (
      omega arith,
      rw is (ap (λ (l : List Bool). l ++ slots_bits m taken more (bus + 1) slots) bits_own
          ∙ ap (λ (l : List Bool). take w bits ++ l) rest.1 ∙ sym (take-add w (width_of m (bus + 1) count) bits) ∙ ap (λ (n : ℕ). take n bits) (sym s)),
    )

pub slots_have : (m : Machine) (word taken bus count : ℕ) (bits : List Bool) (slots : List (Option Move)) → IsMachine m → bus + count ≤ length m.buses
    → width_of m bus count ≤ length bits → decoded_slots m word taken bus (fields_from m bus count) bits ≡ Ok slots → SlotsHave m taken bus count bits slots
slots_have m word taken bus zero bits slots rules h enough said = let e : [] ≡ slots = same_ok [] slots said in rw (← e) (refl, refl)
slots_have m word taken bus (suc count) bits slots rules h enough said =
    let w : ℕ = bus_width m bus in
    let s = sum_by-cons (bus_width m) bus (range_with_len (bus + 1) count) in
    let d = length-drop w bits in
    let slot = then-ok (decoded_bus m word taken bus (fields_of m bus) bits)
    (λ slot. decoded_slots m word taken (bus + 1) (fields_from m (bus + 1) count) (drop w bits) >>= λ slots. Ok (slot ∷ slots)) slots said in
    let rest = then-ok (decoded_slots m word taken (bus + 1) (fields_from m (bus + 1) count) (drop w bits)) (λ slots. Ok (slot.0 ∷ slots)) slots slot.2 in
    let e : slot.0 ∷ rest.0 ≡ slots = same_ok (slot.0 ∷ rest.0) slots rest.2 in
    let more = slots_have m word taken (bus + 1) count (drop w bits) rest.0 rules (omega arith) (omega arith) rest.1 in
    subst (λ (l : List (Option Move)). SlotsHave m taken bus (suc count) bits l) e
    (slots_have_by m word taken bus count bits slot.0 rest.0 (has_bit taken bus) rules (omega arith) enough refl slot.1 more)

-- ---- the template and the long immediate

-- the code of a template, 0 for none
abbrev pub template_number : Option ℕ → ℕ
template_number None = 0
template_number (Some t) = 1 + t

template_number_of : (m : Machine) (code : ℕ) (template : Option ℕ) → decoded_template m code ≡ Some template → template_number template ≡ code
template_number_of m code template said = by (code == 0) refl said where
  some : (code == 0) ≡ false → (b : Bool) → (if b then Some (Some (code - 1)) else None) ≡ Some template → template_number template ≡ code
  some is true h =
      let apart : code ≡ 0 → ⊥ = λ e. both_ways (code == 0) is (eq-eqb code 0 e) in
      ap template_number (sym (same_Some (Some (code - 1)) template h)) ∙ omega arith
  some is false h = absurd (none-some template h)

  by : (b : Bool) → (code == 0) ≡ b → (if b then Some None else if nat_lt (code - 1) (length m.templates) then Some (Some (code - 1)) else None) ≡ Some template
      → template_number template ≡ code
  by true is h = ap template_number (sym (same_Some None template h)) ∙ sym (eqb-true code 0 is)
  by false is h = some is (nat_lt (code - 1) (length m.templates)) h

word_only_is : (n : ℕ) (v : ℕ) → word_only n ≡ Some v → v ≡ n
word_only_is n v h = by (nat_lt n (2 ^ 32)) h where
  by : (b : Bool) → (if b then Some n else None) ≡ Some v → v ≡ n
  by true e = sym (same_Some n v e)
  by false e = absurd (none-some v e)

-- what is said of a long immediate has its bits
record LongHas (m : Machine) (template : Option ℕ) (bits : List Bool) (long : Option Long) : Type 0 where
  code : template_code long ≡ template_number template
  takes : buses_of m long ≡ taken_by m template
  value : long_bits m (taken_by m template) long ≡ bits

long_has : (m : Machine) (word : ℕ) (template : Option ℕ) (bits : List Bool) (long : Option Long) → width_of m 0 (length m.buses) ≤ length bits
    → decoded_long m word (fields_from m 0 (length m.buses)) template bits ≡ Ok long
    → LongHas m template (taken_bits (taken_by m template) 0 (fields_from m 0 (length m.buses)) bits) long
long_has m word None bits long enough said =
    let e : None ≡ long = same_ok None long said in
    let many = length-taken_bits m 0 0 (length m.buses) bits enough in
    let none = no_bus_in_none m (numbers (length m.buses)) in
    let nil = nil_from_length (taken_bits 0 0 (fields_from m 0 (length m.buses)) bits) (many ∙ none) in
    rw (← e) (record { code = refl; takes = refl; value = sym nil })
long_has m word (Some t) bits long enough said =
    let taken : ℕ = taken_by m (Some t) in
    let own : List Bool = taken_bits taken 0 (fields_from m 0 (length m.buses)) bits in
    let value = then-ok (or_refuse (of_word word Field (least_bus m taken)) (word_only (number_of own))) (λ value. Ok (Some (record { template = t; value = value }))) long said in
    let some = not_refused (of_word word Field (least_bus m taken)) (word_only (number_of own)) value.0 value.1 in
    let is = word_only_is (number_of own) value.0 some in
    let l : Long = record { template = t; value = value.0 } in
    let e : Some l ≡ long = same_ok (Some l) long value.2 in
    let many = length-taken_bits m taken 0 (length m.buses) bits enough in
    rw (← e) (record { code = refl; takes = refl; value = bits_of-number_of own (taken_width m taken) value.0 many (sym is) })

-- ---- instructions

-- the instruction that bits begin with has these bits
pub instruction_has : (m : Machine) (word : ℕ) (bits : List Bool) (i : Instruction) → IsMachine m → word_width m ≤ length bits
    → decoded_instruction m (layout_of m) word bits ≡ Ok i → instruction_bits m i ≡ take (word_width m) bits
unfolding decoded_instruction instruction_bits
instruction_has m word bits i rules enough said =
    let tw : ℕ = template_width m in
    let code : ℕ = field 0 tw bits in
    let rest : List Bool = drop tw bits in
    let fs : List BusFields = fields_from m 0 (length m.buses) in
    let d = length-drop tw bits in
    let template = then-ok (or_refuse (of_word word Field (length m.buses)) (decoded_template m code))
    (λ template. decoded_long m word fs template rest >>= λ long. decoded_slots m word (taken_by m template) 0 fs rest >>= λ moves. Ok (record { moves = moves; long = long })) i said in
    let long = then-ok (decoded_long m word fs template.0 rest)
    (λ long. decoded_slots m word (taken_by m template.0) 0 fs rest >>= λ moves. Ok (record { moves = moves; long = long })) i template.2 in
    let moves = then-ok (decoded_slots m word (taken_by m template.0) 0 fs rest) (λ moves. Ok (record { moves = moves; long = long.0 })) i long.2 in
    let j : Instruction = record { moves = moves.0; long = long.0 } in
    let e : j ≡ i = same_ok j i moves.2 in
    let t = template_number_of m code template.0 (not_refused (of_word word Field (length m.buses)) (decoded_template m code) template.0 template.1) in
    let l = long_has m word template.0 rest long.0 (omega arith) long.1 in
    let s = slots_have m word (taken_by m template.0) 0 (length m.buses) rest moves.0 rules (omega arith) (omega arith) moves.1 in
    let first : bits_of tw (template_code long.0) ≡ take tw bits =
    ap (λ (n : ℕ). bits_of tw n) (l.code ∙ t) ∙ bits_of-number_of (take tw bits) tw code (length-take-le tw bits (omega arith)) refl in
    ap (λ (x : Instruction). bits_of tw (template_code x.long) ++ slots_bits m (buses_of m x.long) (long_bits m (buses_of m x.long) x.long) 0 x.moves) (sym e)
    ∙ ap (λ (b : List Bool). b ++ slots_bits m (buses_of m long.0) (long_bits m (buses_of m long.0) long.0) 0 moves.0) first
    ∙ ap (λ (n : ℕ). take tw bits ++ slots_bits m n (long_bits m n long.0) 0 moves.0) l.takes
    ∙ ap (λ (b : List Bool). take tw bits ++ slots_bits m (taken_by m template.0) b 0 moves.0) l.value
    ∙ ap (λ (b : List Bool). take tw bits ++ b) s.1
    ∙ sym (take-add tw (width_of m 0 (length m.buses)) bits)
