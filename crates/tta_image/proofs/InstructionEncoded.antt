-- The bits of a legal instruction decode to the instruction.
use Rattle.std.proofs.Common.{◌≡◌, ℕ, suc, ◌+◌, ◌-◌, ◌^◌, ◌<◌, ◌==◌, Bool, true, false, nat_lt, is_some, if◌then◌else◌, List, [], ◌∷◌, ◌++◌, length, take, drop, slice_get, Option, Some, None, Result, Ok, refl, sym, ap, ◌∙◌, arith}
use Rattle.std.specs.Option.{option_map_or}
use Rattle.std.proofs.lemmas.Bool.{and_parts, ltb-true, lt-ltb, eqb-true, false_from_ne_true}
use Rattle.std.proofs.lemmas.List.{append_assoc, length-drop, length-take-le, take_at, drop_at, take-append-drop, nil_from_length}
use Rattle.tta_image.specs.Cited.{or_refuse, BusFields, Machine, has_bit, template_width, bus_width, taken_width, fields_of, layout_of, IsMachine, Move, Long, Instruction, is_long, is_legal}
use Rattle.tta_parse.specs.Steps.{◌>>=◌}
use Rattle.tta_arch.proofs.Widths.{width_for-enough}
use Rattle.tta_image.specs.declared.refusal.ImageError.{ImageError}
use Rattle.tta_image.specs.declared.refusal.ImageRefusal.TheVariants.{Field}
use Rattle.tta_image.specs.Refusals.{of_word}
use Rattle.tta_image.specs.Bits.{bits_of, slot_bits, slots_bits, template_code, long_bits, instruction_bits}
use Rattle.tta_image.specs.Fields.{buses_of}
use Rattle.tta_image.specs.Decoding.{number_of, field, decoded_template, taken_by, least_bus, taken_bits, word_only, decoded_long, decoded_bus, decoded_slots, decoded_instruction}
use Rattle.tta_image.proofs.Unique.{length-bits_of}
use Rattle.tta_image.proofs.Numbers.{number_of-bits_of_small}
use Rattle.tta_image.proofs.SlotLemmas.{length-slot_bits, is_joined_slot}
use Rattle.tta_image.proofs.SlotsEncoded.{decoded_slot-bits_of}
use Rattle.tta_image.proofs.InstructionLemmas.{left_from, left_taken, left_kept, whole_of, AreLegal, is_kept_slot, empty_where_taken, template_inside, value_fits, length-long_bits}
use Rattle.tta_image.proofs.InstructionDecoded.{fields_from}

-- ---- the buses

-- the bits of a bus before those of the others
abbrev own_bits : Machine → (taken bus : ℕ) → List Bool → Option Move → List Bool
own_bits m taken bus long slot = if has_bit taken bus then take (bus_width m bus) long else slot_bits m bus slot

-- what is left of a long immediate after a bus
abbrev long_after : Machine → (taken bus : ℕ) → List Bool → List Bool
long_after m taken bus long = if has_bit taken bus then drop (bus_width m bus) long else long

slots_cut : (m : Machine) (taken bus : ℕ) (long rest : List Bool) (s : Option Move) (ss : List (Option Move))
    → slots_bits m taken long bus (s ∷ ss) ++ rest ≡ own_bits m taken bus long s ++ (slots_bits m taken (long_after m taken bus long) (bus + 1) ss ++ rest)
slots_cut m taken bus long rest s ss = by (has_bit taken bus) refl where
  by : (b : Bool) → has_bit taken bus ≡ b
      → slots_bits m taken long bus (s ∷ ss) ++ rest ≡ own_bits m taken bus long s ++ (slots_bits m taken (long_after m taken bus long) (bus + 1) ss ++ rest)
  by true is = rw is (append_assoc (take (bus_width m bus) long) (slots_bits m taken (drop (bus_width m bus) long) (bus + 1) ss) rest)
  by false is = rw is (append_assoc (slot_bits m bus s) (slots_bits m taken long (bus + 1) ss) rest)

own_length : (m : Machine) (taken bus count : ℕ) (long : List Bool) (s : Option Move) → length long ≡ left_from m taken bus (suc count)
    → length (own_bits m taken bus long s) ≡ bus_width m bus
own_length m taken bus count long s many = by (has_bit taken bus) refl where
  by : (b : Bool) → has_bit taken bus ≡ b → length (own_bits m taken bus long s) ≡ bus_width m bus
  by true is = let left = left_taken m taken bus count is in rw is (length-take-le (bus_width m bus) long (omega arith))
  by false is = rw is (length-slot_bits m bus s)

after_length : (m : Machine) (taken bus count : ℕ) (long : List Bool) → length long ≡ left_from m taken bus (suc count)
    → length (long_after m taken bus long) ≡ left_from m taken (bus + 1) count
after_length m taken bus count long many = by (has_bit taken bus) refl where
  by : (b : Bool) → has_bit taken bus ≡ b → length (long_after m taken bus long) ≡ left_from m taken (bus + 1) count
  by true is = let left = left_taken m taken bus count is in let d = length-drop (bus_width m bus) long in rw is (omega arith)
  by false is = let left = left_kept m taken bus count is in rw is (omega arith)

own_decoded : (m : Machine) (word taken bus : ℕ) (long rest : List Bool) (s : Option Move) → IsMachine m → is_kept_slot taken bus s ≡ true → is_joined_slot m bus s ≡ true
    → decoded_bus m word taken bus (fields_of m bus) (own_bits m taken bus long s ++ rest) ≡ Ok s
own_decoded m word taken bus long rest s rules kept joined = by (has_bit taken bus) refl where
  by : (b : Bool) → has_bit taken bus ≡ b → decoded_bus m word taken bus (fields_of m bus) (own_bits m taken bus long s ++ rest) ≡ Ok s
  by true is = rw is (ap (λ (o : Option Move). Ok o) (sym (empty_where_taken taken bus s is kept)))
  by false is = rw is (ap (λ (o : Option (Option Move)). or_refuse (of_word word Field bus) o) (decoded_slot-bits_of m bus s rest rules joined))

pub decoded_slots-bits : (m : Machine) (word taken bus : ℕ) (long rest : List Bool) (slots : List (Option Move)) → IsMachine m
    → length long ≡ left_from m taken bus (length slots) → AreLegal m taken bus slots
    → decoded_slots m word taken bus (fields_from m bus (length slots)) (slots_bits m taken long bus slots ++ rest) ≡ Ok slots
decoded_slots-bits m word taken bus long rest [] rules many legal = refl
decoded_slots-bits m word taken bus long rest (s ∷ ss) rules many legal =
    let w : ℕ = bus_width m bus in
    let own : List Bool = own_bits m taken bus long s in
    let after : List Bool = slots_bits m taken (long_after m taken bus long) (bus + 1) ss ++ rest in
    let fs : List BusFields = fields_from m (bus + 1) (length ss) in
    let more : decoded_slots m word taken (bus + 1) fs (drop w (own ++ after)) ≡ Ok ss =
    ap (λ (l : List Bool). decoded_slots m word taken (bus + 1) fs l) (drop_at own after w (own_length m taken bus (length ss) long s many))
    ∙ decoded_slots-bits m word taken (bus + 1) (long_after m taken bus long) rest ss rules (after_length m taken bus (length ss) long many) legal.2 in
    ap (λ (l : List Bool). decoded_bus m word taken bus (fields_of m bus) l >>= λ slot. decoded_slots m word taken (bus + 1) fs (drop w l) >>= λ slots. Ok (slot ∷ slots))
    (slots_cut m taken bus long rest s ss)
    ∙ ap (λ (r : Result (Option Move) ImageError). r >>= λ slot. decoded_slots m word taken (bus + 1) fs (drop w (own ++ after)) >>= λ slots. Ok (slot ∷ slots))
    (own_decoded m word taken bus long after s rules legal.0 legal.1)
    ∙ ap (λ (r : Result (List (Option Move)) ImageError). r >>= λ slots. Ok (s ∷ slots)) more

own_taken : (m : Machine) (taken bus count : ℕ) (long rest : List Bool) (s : Option Move) → length long ≡ left_from m taken bus (suc count)
    → (if has_bit taken bus then take (bus_width m bus) (own_bits m taken bus long s ++ rest) else []) ++ long_after m taken bus long ≡ long
own_taken m taken bus count long rest s many = by (has_bit taken bus) refl where
  by : (b : Bool) → has_bit taken bus ≡ b
      → (if has_bit taken bus then take (bus_width m bus) (own_bits m taken bus long s ++ rest) else []) ++ long_after m taken bus long ≡ long
  by true is =
      let left = left_taken m taken bus count is in
      let front = length-take-le (bus_width m bus) long (omega arith) in
      rw is (ap (λ (l : List Bool). l ++ drop (bus_width m bus) long) (take_at (take (bus_width m bus) long) rest (bus_width m bus) front) ∙ take-append-drop (bus_width m bus) long)
  by false is = rw is refl

pub taken_bits-slots_bits : (m : Machine) (taken bus : ℕ) (long rest : List Bool) (slots : List (Option Move)) → length long ≡ left_from m taken bus (length slots)
    → taken_bits taken bus (fields_from m bus (length slots)) (slots_bits m taken long bus slots ++ rest) ≡ long
taken_bits-slots_bits m taken bus long rest [] many = sym (nil_from_length long many)
taken_bits-slots_bits m taken bus long rest (s ∷ ss) many =
    let w : ℕ = bus_width m bus in
    let own : List Bool = own_bits m taken bus long s in
    let after : List Bool = slots_bits m taken (long_after m taken bus long) (bus + 1) ss ++ rest in
    let fs : List BusFields = fields_from m (bus + 1) (length ss) in
    let more : taken_bits taken (bus + 1) fs (drop w (own ++ after)) ≡ long_after m taken bus long =
    ap (λ (l : List Bool). taken_bits taken (bus + 1) fs l) (drop_at own after w (own_length m taken bus (length ss) long s many))
    ∙ taken_bits-slots_bits m taken (bus + 1) (long_after m taken bus long) rest ss (after_length m taken bus (length ss) long many) in
    ap (λ (l : List Bool). (if has_bit taken bus then take w l else []) ++ taken_bits taken (bus + 1) fs (drop w l)) (slots_cut m taken bus long rest s ss)
    ∙ ap (λ (l : List Bool). (if has_bit taken bus then take w (own ++ after) else []) ++ l) more
    ∙ own_taken m taken bus (length ss) long after s many

-- ---- the template and the long immediate

-- the template of a long immediate
abbrev template_of : Option Long → Option ℕ
template_of None = None
template_of (Some l) = Some l.template

takes_by : (m : Machine) (long : Option Long) → buses_of m long ≡ taken_by m (template_of long)
takes_by m None = refl
takes_by m (Some l) = refl

decoded_template-code : (m : Machine) (long : Option Long) → template_code long < 1 + length m.templates → decoded_template m (template_code long) ≡ Some (template_of long)
decoded_template-code m None h = refl
decoded_template-code m (Some l) h =
    let some : (1 + l.template == 0) ≡ false = false_from_ne_true (1 + l.template == 0) (λ e. let z = eqb-true (1 + l.template) 0 e in absurd (omega arith)) in
    let e : 1 + l.template - 1 ≡ l.template = omega arith in
    rw (some, e, lt-ltb l.template (length m.templates) (omega arith)) refl

decoded_long-bits : (m : Machine) (word : ℕ) (fs : List BusFields) (bits : List Bool) (long : Option Long) → IsMachine m → option_map_or (is_long m) long true ≡ true
    → taken_bits (buses_of m long) 0 fs bits ≡ long_bits m (buses_of m long) long → decoded_long m word fs (template_of long) bits ≡ Ok long
decoded_long-bits m word fs bits None rules h same = refl
decoded_long-bits m word fs bits (Some l) rules h same =
    let taken : ℕ = buses_of m (Some l) in
    let small = ltb-true l.value (2 ^ 32) (and_parts (is_some (slice_get m.templates l.template)) (nat_lt l.value (2 ^ 32)) h).1 in
    let value : number_of (taken_bits taken 0 fs bits) ≡ l.value = ap number_of same ∙ number_of-bits_of_small (taken_width m taken) l.value (value_fits m l rules h) in
    ap (λ (n : ℕ). or_refuse (of_word word Field (least_bus m taken)) (word_only n) >>= λ value. Ok (Some (record { template = l.template; value = value }))) value
    ∙ ap (λ (b : Bool). or_refuse (of_word word Field (least_bus m taken)) (if b then Some l.value else None) >>= λ value. Ok (Some (record { template = l.template; value = value })))
    (lt-ltb l.value (2 ^ 32) small)

-- ---- instructions

-- bits that begin with those of a legal instruction decode to it
pub decoded_instruction-bits : (m : Machine) (word : ℕ) (i : Instruction) (rest : List Bool) → IsMachine m → is_legal m i ≡ true
    → decoded_instruction m (layout_of m) word (instruction_bits m i ++ rest) ≡ Ok i
unfolding decoded_instruction instruction_bits
decoded_instruction-bits m word i rest rules h =
    let whole = whole_of m i h in
    let tw : ℕ = template_width m in
    let taken : ℕ = buses_of m i.long in
    let long : List Bool = long_bits m taken i.long in
    let template : List Bool = bits_of tw (template_code i.long) in
    let slots : List Bool = slots_bits m taken long 0 i.moves in
    let fs : List BusFields = fields_from m 0 (length m.buses) in
    let cut : (template ++ slots) ++ rest ≡ template ++ (slots ++ rest) = append_assoc template slots rest in
    let inside = template_inside m i.long whole.template in
    let enough = width_for-enough (1 + length m.templates) in
    let first : field 0 tw (template ++ (slots ++ rest)) ≡ template_code i.long =
    ap number_of (take_at template (slots ++ rest) tw (length-bits_of tw (template_code i.long))) ∙ number_of-bits_of_small tw (template_code i.long) (omega arith) in
    let after : drop tw (template ++ (slots ++ rest)) ≡ slots ++ rest = drop_at template (slots ++ rest) tw (length-bits_of tw (template_code i.long)) in
    let many : length long ≡ left_from m taken 0 (length i.moves) = length-long_bits m i.long (length i.moves) whole.count in
    let buses : fields_from m 0 (length i.moves) ≡ fs = ap (λ (n : ℕ). fields_from m 0 n) whole.count in
    let long_is : decoded_long m word fs (template_of i.long) (slots ++ rest) ≡ Ok i.long =
    decoded_long-bits m word fs (slots ++ rest) i.long rules whole.template
    (ap (λ (l : List BusFields). taken_bits taken 0 l (slots ++ rest)) (sym buses) ∙ taken_bits-slots_bits m taken 0 long rest i.moves many) in
    let slots_are : decoded_slots m word taken 0 fs (slots ++ rest) ≡ Ok i.moves =
    ap (λ (l : List BusFields). decoded_slots m word taken 0 l (slots ++ rest)) (sym buses) ∙ decoded_slots-bits m word taken 0 long rest i.moves rules many whole.slots in
    let e : Result Instruction ImageError = Ok i in
    ap (λ (l : List Bool). or_refuse (of_word word Field (length m.buses)) (decoded_template m (field 0 tw l)) >>= λ t. decoded_long m word fs t (drop tw l) >>= λ long.
    decoded_slots m word (taken_by m t) 0 fs (drop tw l) >>= λ moves. Ok (record { moves = moves; long = long })) cut
    ∙ ap (λ (n : ℕ). or_refuse (of_word word Field (length m.buses)) (decoded_template m n) >>= λ t. decoded_long m word fs t (drop tw (template ++ (slots ++ rest))) >>= λ long.
    decoded_slots m word (taken_by m t) 0 fs (drop tw (template ++ (slots ++ rest))) >>= λ moves. Ok (record { moves = moves; long = long })) first
    ∙ ap (λ (o : Option (Option ℕ)). or_refuse (of_word word Field (length m.buses)) o >>= λ t. decoded_long m word fs t (drop tw (template ++ (slots ++ rest))) >>= λ long.
    decoded_slots m word (taken_by m t) 0 fs (drop tw (template ++ (slots ++ rest))) >>= λ moves. Ok (record { moves = moves; long = long })) (decoded_template-code m i.long inside)
    ∙ ap (λ (l : List Bool). decoded_long m word fs (template_of i.long) l >>= λ long. decoded_slots m word (taken_by m (template_of i.long)) 0 fs l >>= λ moves.
    Ok (record { moves = moves; long = long })) after
    ∙ ap (λ (r : Result (Option Long) ImageError). r >>= λ long. decoded_slots m word (taken_by m (template_of i.long)) 0 fs (slots ++ rest) >>= λ moves.
    Ok (record { moves = moves; long = long })) long_is
    ∙ ap (λ (n : ℕ). decoded_slots m word n 0 fs (slots ++ rest) >>= λ moves. Ok (record { moves = moves; long = i.long })) (sym (takes_by m i.long))
    ∙ ap (λ (r : Result (List (Option Move)) ImageError). r >>= λ moves. Ok (record { moves = moves; long = i.long })) slots_are
