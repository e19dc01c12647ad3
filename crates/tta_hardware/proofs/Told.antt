-- What stands in the word of a legal instruction: its template, its long immediate, and the slots of its buses.
use Rattle.std.proofs.Common.{◌≡◌, ℕ, ◌+◌, ◌-◌, ◌/◌, ◌%◌, ◌^◌, ◌<◌, ◌==◌, Bool, true, false, nat_lt, is_some, List, [], ◌++◌, length, slice_get, Option, Some, None, refl, sym, ap, ◌∙◌, subst, arith}
use Rattle.std.specs.Option.{option_map_or}
use Rattle.std.proofs.lemmas.Bool.{and_parts, ltb-true, false≢true}
use Rattle.std.proofs.lemmas.Nat.{pow_pos}
use Rattle.std.proofs.lemmas.List.{append_assoc, append-nil}
use Rattle.tta_hardware.specs.Cited.{Units, Template, Machine, has_bit, template_width, taken_width, IsMachine, Move, Long, Instruction, is_long, is_legal, bits_of, slot_bits, slots_bits, template_code, long_bits, instruction_bits, buses_of, number_of, Expr, is_set, value}
use Rattle.tta_arch.proofs.Widths.{width_for-enough, no_high}
use Rattle.tta_image.proofs.Unique.{length-bits_of}
use Rattle.tta_image.proofs.Numbers.{number_of-bits_of_small}
use Rattle.tta_image.proofs.BitLemmas.{low_whole}
use Rattle.tta_image.proofs.SlotLemmas.{is_joined_slot}
use Rattle.tta_image.proofs.InstructionLemmas.{slots_length, IsWhole, whole_of, template_inside, value_fits, length-long_bits}
use Rattle.tta_image.proofs.InstructionEncoded.{taken_bits-slots_bits}
use Rattle.tta_hardware.specs.Fields.{word_of}
use Rattle.tta_hardware.specs.Parts.{buses_width, template_part, takes_from, shares_from, long_from}
use Rattle.tta_hardware.proofs.Numbers.{piece_at}
use Rattle.tta_hardware.proofs.Slots.{HasSlot, has_slot, slot_stands}
use Rattle.tta_hardware.proofs.Templates.{takes_none, takes_some, long_none, long_some}
use Rattle.tta_hardware.proofs.Shares.{own_from, shares-value}

-- ---- what stands in the word

-- the bits of the slots of an instruction
abbrev pub slots_in : Machine → Instruction → List Bool
slots_in m i = slots_bits m (buses_of m i.long) (long_bits m (buses_of m i.long) i.long) 0 i.moves

-- the bits of its template
abbrev pub template_in : Machine → Instruction → List Bool
template_in m i = bits_of (template_width m) (template_code i.long)

pub word_parts : (m : Machine) (i : Instruction) → word_of m i ≡ number_of (template_in m i ++ slots_in m i)
unfolding instruction_bits
word_parts m i = refl

slots_wide : (m : Machine) (i : Instruction) → IsWhole m i.moves i.long → length (slots_in m i) ≡ buses_width m 0 (length m.buses)
slots_wide m i whole =
    slots_length m (buses_of m i.long) 0 (long_bits m (buses_of m i.long) i.long) i.moves
    (length-long_bits m i.long (length i.moves) whole.count)
    ∙ ap (λ (n : ℕ). buses_width m 0 n) whole.count

-- the word has the template's code
pub code_stands : (m : Machine) (i : Instruction) → is_legal m i ≡ true
    → word_of m i / 2 ^ buses_width m 0 (length m.buses) % 2 ^ template_width m ≡ template_code i.long
code_stands m i h =
    let whole = whole_of m i h in
    let inside = template_inside m i.long whole.template in
    let enough = width_for-enough (1 + length m.templates) in
    ap (λ (n : ℕ). n / 2 ^ buses_width m 0 (length m.buses) % 2 ^ template_width m) (word_parts m i)
    ∙ piece_at (template_in m i ++ slots_in m i) [] (template_in m i) (slots_in m i) (buses_width m 0 (length m.buses))
    (template_width m) refl (slots_wide m i whole)
    (length-bits_of (template_width m) (template_code i.long))
    ∙ number_of-bits_of_small (template_width m) (template_code i.long) (omega arith)

-- the slot of a bus stands in the word
pub slot_in_word : (m : Machine) (i : Instruction) (bus : ℕ) (slot : Option Move) → is_legal m i ≡ true → bus < length m.buses
    → has_bit (buses_of m i.long) bus ≡ false
    → slice_get i.moves bus ≡ Some slot → HasSlot m (word_of m i) bus slot × (is_joined_slot m bus slot ≡ true)
slot_in_word m i bus slot h inside kept at =
    let whole = whole_of m i h in
    let count = whole.count in
    let after : ℕ = length m.buses - (bus + 1) in
    let s = slot_stands m (buses_of m i.long) 0 bus bus after (long_bits m (buses_of m i.long) i.long) i.moves slot
    (length-long_bits m i.long (length i.moves) whole.count) whole.slots (omega arith) (omega arith) kept at in
    let cut : template_in m i ++ slots_in m i ≡ (template_in m i ++ s.front) ++ (slot_bits m bus slot ++ s.rest) =
    ap (λ (l : List Bool). template_in m i ++ l) s.cut ∙ sym (append_assoc (template_in m i) s.front (slot_bits m bus slot ++ s.rest)) in (
      subst (λ (n : ℕ). HasSlot m n bus slot) (sym (word_parts m i))
          (has_slot m bus slot (template_in m i ++ slots_in m i) (template_in m i ++ s.front) s.rest s.joined cut s.below),
      s.joined,
    )

-- ---- the template and the long immediate

-- whether a template takes a bus is told by the mask of its buses
has_none_bit : (bus : ℕ) → has_bit 0 bus ≡ false
has_none_bit bus = ap (λ (x : ℕ). x % 2 == 1) (no_high 0 0 bus (pow_pos 0) (omega arith))

template_found : (m : Machine) (l : Long) → is_long m l ≡ true
    → (t : Template) × ((slice_get m.templates l.template ≡ Some t) × (buses_of m (Some l) ≡ t.buses))
template_found m l h =
    let both = and_parts (is_some (slice_get m.templates l.template)) (nat_lt l.value (2 ^ 32)) h in
    by (slice_get m.templates l.template) refl both.0 where
      by : (o : Option Template) → slice_get m.templates l.template ≡ o → is_some o ≡ true
          → (t : Template) × ((slice_get m.templates l.template ≡ Some t) × (buses_of m (Some l) ≡ t.buses))
      by None at some = absurd (false≢true some)
      by (Some t) at some = (t, (at, ap (λ (o : Option Template). option_map_or (λ x. x.buses) o 0) at))

module _ {N M : Type 0} (u : Units) (ms : M → List ℕ) (env : N → ℕ) (m : Machine) (i : Instruction) (word : Expr N M)
    (rules : IsMachine m) (legal : is_legal m i ≡ true) (is : value u ms env word ≡ word_of m i) where
  -- the template's code
  pub code_told : value u ms env (template_part m word) ≡ template_code i.long
  code_told =
      ap (λ (n : ℕ). n / 2 ^ buses_width m 0 (length m.buses) % 2 ^ template_width m) is ∙ code_stands m i legal

  takes_by : (bus : ℕ) (long : Option Long) → value u ms env (template_part m word) ≡ template_code long
      → option_map_or (is_long m) long true ≡ true
      → is_set (value u ms env (takes_from m word bus 0 m.templates)) ≡ has_bit (buses_of m long) bus
  takes_by bus None told h = takes_none u ms env m word 0 told bus 0 m.templates (omega arith) ∙ sym (has_none_bit bus)
  takes_by bus (Some l) told h =
      let t = template_found m l h in
      takes_some u ms env m word (1 + l.template) told bus 0 l.template m.templates t.0 (omega arith) t.1.0
      ∙ ap (λ (x : ℕ). has_bit x bus) (sym t.1.1)

  -- whether a bus is taken
  pub takes_told : (bus : ℕ) → is_set (value u ms env (takes_from m word bus 0 m.templates)) ≡ has_bit (buses_of m i.long) bus
  takes_told bus = takes_by bus i.long code_told (whole_of m i legal).template

  pub long_by : (long : Option Long) → value u ms env (template_part m word) ≡ template_code long → IsWhole m i.moves long
      → (long ≡ i.long) → value u ms env (long_from m word 0 m.templates) ≡ option_map_or (λ l. l.value) long 0
  long_by None told whole same = long_none u ms env m word 0 told 0 m.templates (omega arith)
  long_by (Some l) told whole same =
      let t = template_found m l whole.template in
      let taken : ℕ = buses_of m (Some l) in
      let n : ℕ = length m.buses in
      let long : List Bool = bits_of (taken_width m taken) l.value in
      let bits : List Bool = slots_bits m taken long 0 i.moves in
      let here : slots_in m i ≡ bits = ap (λ (x : Option Long). slots_bits m (buses_of m x) (long_bits m (buses_of m x) x) 0 i.moves)
      (sym same) in
      let small =
      ltb-true l.value (2 ^ 32) (and_parts (is_some (slice_get m.templates l.template)) (nat_lt l.value (2 ^ 32)) whole.template).1 in
      let many = length-long_bits m (Some l) (length i.moves) whole.count in
      let read : own_from m taken 0 n bits ≡ long =
      ap (λ (k : ℕ). own_from m taken 0 k bits) (sym whole.count)
      ∙ ap (λ (b : List Bool). own_from m taken 0 (length i.moves) b) (sym (append-nil bits))
      ∙ taken_bits-slots_bits m taken 0 long [] i.moves many in
      let wide : length bits ≡ buses_width m 0 n = ap length (sym here) ∙ slots_wide m i (whole_of m i legal) in
      let held : value u ms env word ≡ number_of (template_in m i ++ bits) = is ∙ word_parts m i
      ∙ ap (λ (b : List Bool). number_of (template_in m i ++ b)) here in
      long_some u ms env m word (1 + l.template) told 0 l.template m.templates t.0 (omega arith) t.1.0
      ∙ ap (λ (x : ℕ). value u ms env (shares_from m word x 0 n)) (sym t.1.1)
      ∙ shares-value u ms env word m taken 0 n (template_in m i) bits held wide
      ∙ ap (λ (b : List Bool). number_of b % 2 ^ 32) read
      ∙ ap (λ (x : ℕ). x % 2 ^ 32) (number_of-bits_of_small (taken_width m taken) l.value (value_fits m l rules whole.template))
      ∙ low_whole l.value 32 32 small (omega arith)
