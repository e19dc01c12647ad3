-- What is read of an image's words, one after another.
use Rattle.std.proofs.Common.{◌≡◌, ℕ, suc, ◌+◌, ◌-◌, ◌^◌, ◌==◌, Bool, true, false, nat_lt, is_some, if◌then◌else◌, List, [], ◌∷◌, length, drop, slice_get, Option, Some, None, Ok, refl, sym, ap, ◌∙◌}
use Rattle.std.specs.Option.{option_map_or}
use Rattle.std.proofs.lemmas.Bool.{and_from, eq-eqb}
use Rattle.std.proofs.lemmas.Option.{none-some, same_Some}
use Rattle.tta_list.proofs.Lists.{some_below}
use Rattle.tta_image.specs.Cited.{or_refuse, BusFields, Layout, Machine, layout_of, Move, Long, Instruction, is_long, is_instruction}
use Rattle.tta_parse.specs.Steps.{◌>>=◌}
use Rattle.tta_parse.proofs.Steps.{same_ok, then-ok}
use Rattle.tta_arch.proofs.Layouts.{layout_buses}
use Rattle.tta_image.specs.declared.refusal.ImageRefusal.TheVariants.{Field}
use Rattle.tta_image.specs.Refusals.{of_word}
use Rattle.tta_image.specs.Decoding.{number_of, field, decoded_template, taken_by, least_bus, taken_bits, word_only, decoded_long, decoded_bus, decoded_slots, decoded_instruction}
use Rattle.tta_image.proofs.InstructionDecoded.{not_refused}

-- ---- what is said of a word is an instruction of the machine

slots_count : (m : Machine) (word taken bus : ℕ) (fs : List BusFields) (bits : List Bool) (slots : List (Option Move))
    → decoded_slots m word taken bus fs bits ≡ Ok slots → length slots ≡ length fs
slots_count m word taken bus [] bits slots said = ap length (sym (same_ok [] slots said))
slots_count m word taken bus (f ∷ fs) bits slots said =
    let slot = then-ok (decoded_bus m word taken bus f bits) (λ slot. decoded_slots m word taken (bus + 1) fs (drop f.width bits) >>= λ slots. Ok (slot ∷ slots)) slots said in
    let rest = then-ok (decoded_slots m word taken (bus + 1) fs (drop f.width bits)) (λ slots. Ok (slot.0 ∷ slots)) slots slot.2 in
    ap length (sym (same_ok (slot.0 ∷ rest.0) slots rest.2)) ∙ ap suc (slots_count m word taken (bus + 1) fs (drop f.width bits) rest.0 rest.1)

-- a template that the machine has
has_template : Machine → Option ℕ → Type 0
has_template m template = option_map_or (λ t. nat_lt t (length m.templates)) template true ≡ true

template_there : (m : Machine) (code : ℕ) (template : Option ℕ) → decoded_template m code ≡ Some template → has_template m template
unfolding has_template
template_there m code template said = by (code == 0) said where
  some : (b : Bool) → nat_lt (code - 1) (length m.templates) ≡ b → (if b then Some (Some (code - 1)) else None) ≡ Some template
      → option_map_or (λ t. nat_lt t (length m.templates)) template true ≡ true
  some true is h = ap (λ (o : Option ℕ). option_map_or (λ t. nat_lt t (length m.templates)) o true) (sym (same_Some (Some (code - 1)) template h)) ∙ is
  some false is h = absurd (none-some template h)

  by : (b : Bool) → (if b then Some None else if nat_lt (code - 1) (length m.templates) then Some (Some (code - 1)) else None) ≡ Some template
      → option_map_or (λ t. nat_lt t (length m.templates)) template true ≡ true
  by true h = ap (λ (o : Option ℕ). option_map_or (λ t. nat_lt t (length m.templates)) o true) (sym (same_Some None template h))
  by false h = some (nat_lt (code - 1) (length m.templates)) refl h

word_fits : (n v : ℕ) → word_only n ≡ Some v → nat_lt v (2 ^ 32) ≡ true
word_fits n v h = by (nat_lt n (2 ^ 32)) refl h where
  by : (b : Bool) → nat_lt n (2 ^ 32) ≡ b → (if b then Some n else None) ≡ Some v → nat_lt v (2 ^ 32) ≡ true
  by true is e = ap (λ (k : ℕ). nat_lt k (2 ^ 32)) (sym (same_Some n v e)) ∙ is
  by false is e = absurd (none-some v e)

long_there : (m : Machine) (word : ℕ) (fs : List BusFields) (template : Option ℕ) (bits : List Bool) (long : Option Long) → has_template m template
    → decoded_long m word fs template bits ≡ Ok long → option_map_or (is_long m) long true ≡ true
unfolding has_template
long_there m word fs None bits long there said = ap (λ (l : Option Long). option_map_or (is_long m) l true) (sym (same_ok None long said))
long_there m word fs (Some t) bits long there said =
    let taken : ℕ = taken_by m (Some t) in
    let value = then-ok (or_refuse (of_word word Field (least_bus m taken)) (word_only (number_of (taken_bits taken 0 fs bits)))) (λ value. Ok (Some (record { template = t; value = value }))) long said in
    let some = not_refused (of_word word Field (least_bus m taken)) (word_only (number_of (taken_bits taken 0 fs bits))) value.0 value.1 in
    let l : Long = record { template = t; value = value.0 } in
    ap (λ (o : Option Long). option_map_or (is_long m) o true) (sym (same_ok (Some l) long value.2))
    ∙ and_from (is_some (slice_get m.templates t)) (nat_lt value.0 (2 ^ 32)) (some_below m.templates t there) (word_fits (number_of (taken_bits taken 0 fs bits)) value.0 some)

pub is_decoded : (m : Machine) (l : Layout) (word : ℕ) (bits : List Bool) (i : Instruction) → l ≡ layout_of m → decoded_instruction m l word bits ≡ Ok i
    → is_instruction m i ≡ true
unfolding decoded_instruction
is_decoded m l word bits i is said =
    let rest : List Bool = drop l.template_width bits in
    let code : ℕ = field 0 l.template_width bits in
    let template = then-ok (or_refuse (of_word word Field (length m.buses)) (decoded_template m code))
    (λ template. decoded_long m word l.buses template rest >>= λ long. decoded_slots m word (taken_by m template) 0 l.buses rest >>= λ moves. Ok (record { moves = moves; long = long })) i said in
    let long = then-ok (decoded_long m word l.buses template.0 rest)
    (λ long. decoded_slots m word (taken_by m template.0) 0 l.buses rest >>= λ moves. Ok (record { moves = moves; long = long })) i template.2 in
    let moves = then-ok (decoded_slots m word (taken_by m template.0) 0 l.buses rest) (λ moves. Ok (record { moves = moves; long = long.0 })) i long.2 in
    let j : Instruction = record { moves = moves.0; long = long.0 } in
    let there = template_there m code template.0 (not_refused (of_word word Field (length m.buses)) (decoded_template m code) template.0 template.1) in
    let count : length moves.0 ≡ length m.buses = slots_count m word (taken_by m template.0) 0 l.buses rest moves.0 moves.1 ∙ layout_buses m l is in
    ap (λ (x : Instruction). is_instruction m x) (sym (same_ok j i moves.2))
    ∙ and_from (length moves.0 == length m.buses) (option_map_or (is_long m) long.0 true) (eq-eqb (length moves.0) (length m.buses) count) (long_there m word l.buses template.0 rest long.0 there long.1)
