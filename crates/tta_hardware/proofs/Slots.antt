-- The bits of a slot in an instruction, and the numbers in its fields.
use Rattle.std.proofs.Common.{◌≡◌, ℕ, zero, suc, ◌+◌, ◌/◌, ◌%◌, ◌^◌, ◌<◌, ◌≤◌, Bool, true, false, if◌then◌else◌, List, [], ◌∷◌, ◌++◌, length, take, drop, slice_get, Option, Some, None, refl, sym, ap, ◌∙◌, subst, arith}
use Rattle.std.proofs.lemmas.Nat.{mod_below, pow_pos}
use Rattle.std.proofs.lemmas.Option.{none-some, same_Some}
use Rattle.std.proofs.lemmas.List.{append_assoc, append-nil, length-append, length-drop}
use Rattle.tta_hardware.specs.Cited.{Source, Machine, has_bit, is_source_on, width_for, guards_on, sources_on, dests_on, short_width, guard_width, payload_width, dest_width, bus_width, guard_code, source_code, dest_code, Move, bits_of, source_bits, slot_bits, slots_bits, bit_value, number_of}
use Rattle.tta_arch.specs.declared.ends.Source.TheVariants as source
use Rattle.tta_arch.proofs.Widths.{width_for-enough, pow_le, no_high}
use Rattle.tta_image.proofs.Unique.{length-bits_of}
use Rattle.tta_image.proofs.Numbers.{number_of-bits_of_small, number_of-zeros}
use Rattle.tta_image.proofs.BitLemmas.{low_whole}
use Rattle.tta_image.proofs.EndsLemmas.{guard_code_inside, source_code_inside, dest_code_inside}
use Rattle.tta_image.proofs.SlotLemmas.{length-slot_bits, is_joined_slot, joined_parts}
use Rattle.tta_image.proofs.InstructionLemmas.{left_from, left_taken, left_kept, slots_length, is_kept_slot, AreLegal}
use Rattle.tta_hardware.specs.Parts.{buses_width, below_bus, below_payload, below_tag, below_guard}
use Rattle.tta_hardware.proofs.Numbers.{part_in_part, piece_at}

-- ---- the numbers of a move

-- the number after the tag of a source field: the low bits of a short word, or the code of the source
abbrev pub payload_of : Machine → (bus : ℕ) → Source → ℕ
payload_of m bus (source.Value word) = word % 2 ^ short_width m bus
payload_of m bus src = source_code m bus src

-- whether a source is a short word
abbrev pub is_value : Source → Bool
is_value (source.Value word) = true
is_value src = false

source_bits_of : (m : Machine) (bus : ℕ) (src : Source) → source_bits m bus src
    ≡ is_value src ∷ bits_of (payload_width m bus) (payload_of m bus src)
source_bits_of m bus (source.Reg f i) = refl
source_bits_of m bus (source.Imm u i) = refl
source_bits_of m bus (source.Shown u) = refl
source_bits_of m bus source.Ra = refl
source_bits_of m bus (source.Value w) = refl

code_fits : (codes width code : ℕ) → code < codes → width_for codes ≤ width → code < 2 ^ width
code_fits codes width code h wide =
    let enough = width_for-enough codes in let more = pow_le (width_for codes) width wide in omega arith

payload_fits : (m : Machine) (bus : ℕ) (src : Source) → is_source_on m bus src ≡ true → payload_of m bus src < 2 ^ payload_width m bus
payload_fits m bus (source.Reg f i) h = code_fits (length (sources_on m bus)) (payload_width m bus) (source_code m bus (source.Reg f i))
    (source_code_inside m bus (source.Reg f i) h) (omega arith)
payload_fits m bus (source.Imm u i) h = code_fits (length (sources_on m bus)) (payload_width m bus) (source_code m bus (source.Imm u i))
    (source_code_inside m bus (source.Imm u i) h) (omega arith)
payload_fits m bus (source.Shown u) h = code_fits (length (sources_on m bus)) (payload_width m bus) (source_code m bus (source.Shown u))
    (source_code_inside m bus (source.Shown u) h) (omega arith)
payload_fits m bus source.Ra h = code_fits (length (sources_on m bus)) (payload_width m bus) (source_code m bus source.Ra)
    (source_code_inside m bus source.Ra h) (omega arith)
payload_fits m bus (source.Value w) h =
    let below = mod_below w (2 ^ short_width m bus) (pow_pos (short_width m bus)) in
    let more = pow_le (short_width m bus) (payload_width m bus) (omega arith) in
    omega arith

-- ---- a move's slot as a number

-- A number has these fields in the place of a bus.
pub record HasFields (m : Machine) (n bus guard : ℕ) (tag : Bool) (payload dest : ℕ) : Type 0 where
  pub at_guard : n / 2 ^ below_guard m bus % 2 ^ guard_width m bus ≡ guard
  pub at_tag : n / 2 ^ below_tag m bus % 2 ^ 1 ≡ bit_value tag
  pub at_payload : n / 2 ^ below_payload m bus % 2 ^ payload_width m bus ≡ payload
  pub at_dest : n / 2 ^ below_bus m bus % 2 ^ dest_width m bus ≡ dest

-- a number has a slot in the place of a bus: the fields of its move, or zeros
abbrev pub HasSlot : Machine → (n bus : ℕ) → Option Move → Type 0
HasSlot m n bus None = HasFields m n bus 0 false 0 0
HasSlot m n bus (Some v) = HasFields m n bus (guard_code m bus v.guard) (is_value v.src) (payload_of m bus v.src) (dest_code m bus v.dst)

tag_number : (b : Bool) → number_of (b ∷ []) ≡ bit_value b
tag_number true = refl
tag_number false = refl

-- bits have a move in the place of a bus
has_move : (m : Machine) (bus : ℕ) (v : Move) (all front rest : List Bool) → is_joined_slot m bus (Some v) ≡ true
    → all ≡ front ++ (slot_bits m bus (Some v) ++ rest)
    → length rest ≡ below_bus m bus → HasSlot m (number_of all) bus (Some v)
has_move m bus v all front rest h is below =
    let j = joined_parts m bus v h in
    let gw : ℕ = guard_width m bus in let pw : ℕ = payload_width m bus in let dw : ℕ = dest_width m bus in
    let low : ℕ = below_bus m bus in
    let g : List Bool = bits_of gw (guard_code m bus v.guard) in
    let t : List Bool = is_value v.src ∷ [] in
    let p : List Bool = bits_of pw (payload_of m bus v.src) in
    let d : List Bool = bits_of dw (dest_code m bus v.dst) in
    let own : List Bool = slot_bits m bus (Some v) in
    let lg = length-bits_of gw (guard_code m bus v.guard) in
    let lp = length-bits_of pw (payload_of m bus v.src) in
    let ld = length-bits_of dw (dest_code m bus v.dst) in
    let cut : own ≡ g ++ (t ++ (p ++ d)) = ap (λ (l : List Bool). g ++ (l ++ d)) (source_bits_of m bus v.src) in
    let n : ℕ = number_of all in
    let whole : n / 2 ^ low % 2 ^ bus_width m bus ≡ number_of own =
    piece_at all front own rest low (bus_width m bus) is below (length-slot_bits m bus (Some v)) in
    let inner : (at w k : ℕ) → at + w ≤ bus_width m bus → number_of own / 2 ^ at % 2 ^ w ≡ k → n / 2 ^ (low + at) % 2 ^ w ≡ k =
    λ at w k fits e. part_in_part n low (bus_width m bus) at w fits ∙ ap (λ (x : ℕ). x / 2 ^ at % 2 ^ w) whole ∙ e in
    let lpd : length (p ++ d) ≡ dw + pw = let e = length-append p d in omega arith in
    let ltpd : length (t ++ (p ++ d)) ≡ dw + pw + 1 = omega arith in
    let at_guard = piece_at own [] g (t ++ (p ++ d)) (dw + pw + 1) gw cut ltpd lg in
    let at_tag = piece_at own g t (p ++ d) (dw + pw) 1 cut lpd refl in
    let at_payload = piece_at own (g ++ t) p d dw pw (cut ∙ sym (append_assoc g t (p ++ d))) ld lp in
    let at_dest = piece_at own (g ++ (t ++ p)) d [] 0 dw
    (cut ∙ sym (append_assoc g (t ++ p) d) ∙ ap (λ (l : List Bool). (g ++ (t ++ p)) ++ l) (sym (append-nil d))) refl ld in
    let guard_small = code_fits (1 + length (guards_on m bus)) gw (guard_code m bus v.guard) (guard_code_inside m bus v.guard j.2)
    (omega arith) in
    let dest_small = code_fits (1 + length (dests_on m bus)) dw (dest_code m bus v.dst) (dest_code_inside m bus v.dst j.1) (omega arith) in
    let to_guard : below_guard m bus ≡ low + (dw + pw + 1) = omega arith in
    let to_tag : below_tag m bus ≡ low + (dw + pw) = omega arith in
    let to_dest : low ≡ low + 0 = omega arith in
    record {
      at_guard = ap (λ (x : ℕ). n / 2 ^ x % 2 ^ gw) to_guard
          ∙ inner (dw + pw + 1) gw (guard_code m bus v.guard) (omega arith)
          (at_guard ∙ number_of-bits_of_small gw (guard_code m bus v.guard) guard_small);
      at_tag = ap (λ (x : ℕ). n / 2 ^ x % 2 ^ 1) to_tag
          ∙ inner (dw + pw) 1 (bit_value (is_value v.src)) (omega arith) (at_tag ∙ tag_number (is_value v.src));
      at_payload =
          inner dw pw (payload_of m bus v.src) (omega arith)
          (at_payload ∙ number_of-bits_of_small pw (payload_of m bus v.src) (payload_fits m bus v.src j.0));
      at_dest = ap (λ (x : ℕ). n / 2 ^ x % 2 ^ dw) to_dest
          ∙ inner 0 dw (dest_code m bus v.dst) (omega arith) (at_dest ∙ number_of-bits_of_small dw (dest_code m bus v.dst) dest_small);
    }

pub zero_part : (at w : ℕ) → 0 / 2 ^ at % 2 ^ w ≡ 0
zero_part at w = ap (λ (x : ℕ). x % 2 ^ w) (no_high 0 0 at (pow_pos 0) (omega arith)) ∙ low_whole 0 0 w (pow_pos 0) (omega arith)

-- bits have no move in the place of a bus
has_none : (m : Machine) (bus : ℕ) (all front rest : List Bool) → all ≡ front ++ (slot_bits m bus None ++ rest)
    → length rest ≡ below_bus m bus → HasSlot m (number_of all) bus None
has_none m bus all front rest is below =
    let gw : ℕ = guard_width m bus in let pw : ℕ = payload_width m bus in let dw : ℕ = dest_width m bus in
    let low : ℕ = below_bus m bus in
    let n : ℕ = number_of all in
    let whole : n / 2 ^ low % 2 ^ bus_width m bus ≡ 0 =
    piece_at all front (slot_bits m bus None) rest low (bus_width m bus) is below (length-slot_bits m bus None)
    ∙ number_of-zeros (bus_width m bus) in
    let inner : (at w : ℕ) → at + w ≤ bus_width m bus → n / 2 ^ (low + at) % 2 ^ w ≡ 0 =
    λ at w fits. part_in_part n low (bus_width m bus) at w fits ∙ ap (λ (x : ℕ). x / 2 ^ at % 2 ^ w) whole ∙ zero_part at w in
    let to_guard : below_guard m bus ≡ low + (dw + pw + 1) = omega arith in
    let to_tag : below_tag m bus ≡ low + (dw + pw) = omega arith in
    let to_dest : low ≡ low + 0 = omega arith in
    record {
      at_guard = ap (λ (x : ℕ). n / 2 ^ x % 2 ^ gw) to_guard ∙ inner (dw + pw + 1) gw (omega arith);
      at_tag = ap (λ (x : ℕ). n / 2 ^ x % 2 ^ 1) to_tag ∙ inner (dw + pw) 1 (omega arith);
      at_payload = inner dw pw (omega arith);
      at_dest = ap (λ (x : ℕ). n / 2 ^ x % 2 ^ dw) to_dest ∙ inner 0 dw (omega arith);
    }

-- bits have a slot in the place of a bus
pub has_slot : (m : Machine) (bus : ℕ) (slot : Option Move) (all front rest : List Bool) → is_joined_slot m bus slot ≡ true
    → all ≡ front ++ (slot_bits m bus slot ++ rest)
    → length rest ≡ below_bus m bus → HasSlot m (number_of all) bus slot
has_slot m bus None all front rest h is below = has_none m bus all front rest is below
has_slot m bus (Some v) all front rest h is below = has_move m bus v all front rest h is below

-- ---- where the slot of a bus stands

-- the bits of a bus before those of the others
abbrev own_bits : Machine → (taken bus : ℕ) → List Bool → Option Move → List Bool
own_bits m taken bus long slot = if has_bit taken bus then take (bus_width m bus) long else slot_bits m bus slot

-- what is left of a long immediate after a bus
abbrev long_after : Machine → (taken bus : ℕ) → List Bool → List Bool
long_after m taken bus long = if has_bit taken bus then drop (bus_width m bus) long else long

slots_cut : (m : Machine) (taken bus : ℕ) (long : List Bool) (s : Option Move) (ss : List (Option Move))
    → slots_bits m taken long bus (s ∷ ss) ≡ own_bits m taken bus long s ++ slots_bits m taken (long_after m taken bus long) (bus + 1) ss
slots_cut m taken bus long s ss = by (has_bit taken bus) refl where
  by : (b : Bool) → has_bit taken bus ≡ b
      → slots_bits m taken long bus (s ∷ ss) ≡ own_bits m taken bus long s ++ slots_bits m taken (long_after m taken bus long) (bus + 1) ss
  by true is = rw is refl
  by false is = rw is refl

after_length : (m : Machine) (taken bus count : ℕ) (long : List Bool) → length long ≡ left_from m taken bus (suc count)
    → length (long_after m taken bus long) ≡ left_from m taken (bus + 1) count
after_length m taken bus count long many = by (has_bit taken bus) refl where
  by : (b : Bool) → has_bit taken bus ≡ b → length (long_after m taken bus long) ≡ left_from m taken (bus + 1) count
  by true is = let left = left_taken m taken bus count is in let d = length-drop (bus_width m bus) long in rw is (omega arith)
  by false is = let left = left_kept m taken bus count is in rw is (omega arith)

-- bits before others that are cut
grown : (own bits front after : List Bool) → bits ≡ front ++ after → own ++ bits ≡ (own ++ front) ++ after
grown own bits front after is = ap (λ (l : List Bool). own ++ l) is ∙ sym (append_assoc own front after)

-- the slot of a bus stands between the bits of those before it and of those after it
pub record SlotStands (m : Machine) (bits : List Bool) (bus after : ℕ) (slot : Option Move) : Type 0 where
  pub front : List Bool
  pub rest : List Bool
  pub cut : bits ≡ front ++ (slot_bits m bus slot ++ rest)
  pub below : length rest ≡ buses_width m (bus + 1) after
  pub joined : is_joined_slot m bus slot ≡ true

pub slot_stands : (m : Machine) (taken bus here k after : ℕ) (long : List Bool) (slots : List (Option Move)) (slot : Option Move)
    → length long ≡ left_from m taken bus (length slots) → AreLegal m taken bus slots → here ≡ bus + k → length slots ≡ suc (k + after)
    → has_bit taken here ≡ false → slice_get slots k ≡ Some slot → SlotStands m (slots_bits m taken long bus slots) here after slot
slot_stands m taken bus here k after long [] slot many legal is size kept at = absurd (omega arith)
slot_stands m taken bus here zero after long (s ∷ ss) slot many legal is size kept at =
    let e : bus ≡ here = omega arith in
    let kept' : has_bit taken bus ≡ false = ap (has_bit taken) e ∙ kept in
    let count : length ss ≡ after = omega arith in
    let left = left_kept m taken bus (length ss) kept' in
    let below = slots_length m taken (bus + 1) long ss (omega arith) in
    subst (λ (b : ℕ). SlotStands m (slots_bits m taken long bus (s ∷ ss)) b after slot) e
    (subst (λ (o : Option Move). SlotStands m (slots_bits m taken long bus (s ∷ ss)) bus after o) (same_Some s slot at)
    (record {
      front = [];
      rest = slots_bits m taken long (bus + 1) ss;
      cut = rw kept' refl;
      below = below ∙ ap (buses_width m (bus + 1)) count;
      joined = legal.1;
    }))
slot_stands m taken bus here (suc k) after long (s ∷ ss) slot many legal is size kept at =
    let more = slot_stands m taken (bus + 1) here k after (long_after m taken bus long) ss slot
    (after_length m taken bus (length ss) long many) legal.2 (omega arith) (omega arith) kept at in
    record {
      front = own_bits m taken bus long s ++ more.front;
      rest = more.rest;
      cut = slots_cut m taken bus long s ss
          ∙ grown (own_bits m taken bus long s) (slots_bits m taken (long_after m taken bus long) (bus + 1) ss) more.front
          (slot_bits m here slot ++ more.rest) more.cut;
      below = more.below;
      joined = more.joined;
    }

-- a bus that is taken has no move
pub kept_at : (m : Machine) (taken bus here k : ℕ) (slots : List (Option Move)) (slot : Option Move) → AreLegal m taken bus slots
    → here ≡ bus + k → slice_get slots k ≡ Some slot
    → is_kept_slot taken here slot ≡ true
kept_at m taken bus here k [] slot legal is at = absurd (none-some slot at)
kept_at m taken bus here zero (s ∷ ss) slot legal is at =
    let e : here ≡ bus = omega arith in
    ap (λ (b : ℕ). is_kept_slot taken b slot) e ∙ ap (λ (o : Option Move). is_kept_slot taken bus o) (sym (same_Some s slot at)) ∙ legal.0
kept_at m taken bus here (suc k) (s ∷ ss) slot legal is at = kept_at m taken (bus + 1) here k ss slot legal.2 (omega arith) at
