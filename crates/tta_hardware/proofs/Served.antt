-- The parts of the word of a legal instruction serve the circuit as its fields.
use Rattle.std.proofs.Common.{◌≡◌, ℕ, ◌+◌, ◌-◌, ◌*◌, ◌/◌, ◌%◌, ◌^◌, ◌<◌, ◌==◌, Bool, true, false, ◌&&◌, nat_lt, if◌then◌else◌, List, length, get_or, slice_get, Option, Some, None, refl, sym, ap, ◌∙◌, subst, arith}
use Rattle.std.specs.Prelude.{option_and_then}
use Rattle.std.specs.Option.{option_map_or}
use Rattle.std.proofs.lemmas.Bool.{eqb-true}
use Rattle.std.proofs.lemmas.Nat.{mod_below, pow_pos}
use Rattle.std.proofs.lemmas.Option.{none-some, slice_get-get_or}
use Rattle.tta_hardware.specs.Cited.{Units, Source, Machine, has_bit, is_source_on, guard_width, short_width, payload_width, dest_width, template_width, guard_code, source_code, dest_code, IsMachine, Move, Long, Instruction, is_legal, template_code, buses_of, bit_value, short_word, is_signed, Expr, Const, Join, Slice, Select, is_set, value, Signal}
use Rattle.tta_arch.specs.declared.ends.Source.TheVariants as source
use Rattle.tta_image.proofs.ShortDecoded.{value_decoded}
use Rattle.tta_image.proofs.NarrowFields.{narrow}
use Rattle.tta_image.proofs.SlotLemmas.{is_joined_slot, joined_parts}
use Rattle.tta_image.proofs.InstructionLemmas.{whole_of, empty_where_taken}
use Rattle.tta_hardware.specs.Signals.{GuardOf, IsShort, SourceOf, ShortOf, DestOf, TemplateOf, LongOf}
use Rattle.tta_hardware.specs.Fields.{slot_at, short_mark, field_of}
use Rattle.tta_hardware.specs.Fields.{word_of}
use Rattle.tta_hardware.specs.Parts.{below_bus, below_payload, below_tag, below_guard, template_part, with_high, short_part, dest_part}
use Rattle.tta_hardware.proofs.Numbers.{low_low, part_in_part}
use Rattle.tta_hardware.proofs.Slots.{payload_of, is_value, HasSlot, kept_at}
use Rattle.std.proofs.lemmas.Bool.{and_from, lt-ltb}
use Rattle.tta_hardware.specs.Signals.{Whole}
use Rattle.tta_hardware.specs.Laws.{FieldsServe}
use Rattle.tta_hardware.proofs.Told.{slot_in_word, code_told, takes_told, long_by}
use Rattle.tta_hardware.proofs.Extending.{extended}

-- ---- sources

-- the tag of a source is its mark
mark_of_tag : (src : Source) → bit_value (is_value src) ≡ short_mark src
mark_of_tag (source.Reg f k) = refl
mark_of_tag (source.Imm u k) = refl
mark_of_tag (source.Shown u) = refl
mark_of_tag source.Ra = refl
mark_of_tag (source.Value w) = refl

-- the number after the tag is the code of a source that is no short word
coded : (m : Machine) (bus : ℕ) (src : Source) → short_mark src ≡ 0 → payload_of m bus src ≡ source_code m bus src
coded m bus (source.Reg f k) h = refl
coded m bus (source.Imm f k) h = refl
coded m bus (source.Shown f) h = refl
coded m bus source.Ra h = refl
coded m bus (source.Value w) h = absurd (omega (arith, h))

-- the template's code is the template's field
template_is : (long : Option Long) → template_code long ≡ option_map_or (λ l. l.template + 1) long 0
template_is None = refl
template_is (Some l) = omega arith

-- ---- the slots

module _ {N M : Type 0} (u : Units) (ms : M → List ℕ) (env : N → ℕ) (m : Machine) (i : Instruction) (word : Expr N M)
    (rules : IsMachine m) (legal : is_legal m i ≡ true) (is : value u ms env word ≡ word_of m i) where
  at_bus : (bus : ℕ) → bus < length m.buses → slice_get i.moves bus ≡ Some (get_or i.moves bus None)
  at_bus bus lt = let c = (whole_of m i legal).count in slice_get-get_or i.moves bus None (omega (arith, c, lt))

  slot_is : (bus : ℕ) → bus < length m.buses → slot_at i bus ≡ get_or i.moves bus None
  slot_is bus lt = ap (λ (o : Option (Option Move)). option_and_then (λ x. x) o) (at_bus bus lt)

  -- a bus that is taken has no move
  empty : (bus : ℕ) → bus < length m.buses → has_bit (buses_of m i.long) bus ≡ true → get_or i.moves bus None ≡ None
  empty bus lt taken =
      empty_where_taken (buses_of m i.long) bus (get_or i.moves bus None) taken
      (kept_at m (buses_of m i.long) 0 bus bus i.moves (get_or i.moves bus None) (whole_of m i legal).slots (omega arith) (at_bus bus lt))

  free : (bus : ℕ) (v : Move) → bus < length m.buses → slot_at i bus ≡ Some v → has_bit (buses_of m i.long) bus ≡ false
  free bus v lt here = by (has_bit (buses_of m i.long) bus) refl where
    by : (b : Bool) → has_bit (buses_of m i.long) bus ≡ b → has_bit (buses_of m i.long) bus ≡ false
    by true taken = absurd (none-some v (sym (empty bus lt taken) ∙ sym (slot_is bus lt) ∙ here))
    by false kept = kept

  -- the slot of a move stands in the word
  pub move_stands : (bus : ℕ) (v : Move) → bus < length m.buses → slot_at i bus ≡ Some v
      → HasSlot m (word_of m i) bus (Some v) × (is_joined_slot m bus (Some v) ≡ true)
  move_stands bus v lt here =
      slot_in_word m i bus (Some v) legal lt (free bus v lt here)
      (at_bus bus lt ∙ ap (λ (o : Option Move). Some o) (sym (slot_is bus lt) ∙ here))

  -- a part of the word
  pub part_told : (low width k : ℕ) → word_of m i / 2 ^ low % 2 ^ width ≡ k → value u ms env (Slice low width word) ≡ k
  part_told low width k at = ap (λ (n : ℕ). n / 2 ^ low % 2 ^ width) is ∙ at

  -- the destination of a bus
  pub dest_told : (bus : ℕ) → bus < length m.buses → value u ms env (dest_part m word bus) ≡ field_of m i (DestOf bus)
  dest_told bus lt = by (has_bit (buses_of m i.long) bus) refl ∙ ap says (sym (slot_is bus lt)) where
    says : Option Move → ℕ
    says o = option_map_or (λ v. dest_code m bus v.dst) o 0

    own : (o : Option Move) → HasSlot m (word_of m i) bus o → value u ms env (Slice (below_bus m bus) (dest_width m bus) word) ≡ says o
    own None has = part_told (below_bus m bus) (dest_width m bus) 0 has.at_dest
    own (Some v) has = part_told (below_bus m bus) (dest_width m bus) (dest_code m bus v.dst) has.at_dest

    at : (b : Bool) → has_bit (buses_of m i.long) bus ≡ b → value u ms env (dest_part m word bus)
        ≡ (if b then 0 else value u ms env (Slice (below_bus m bus) (dest_width m bus) word))
    at b kept =
        ap (λ (t : Bool). if t then 0 else value u ms env (Slice (below_bus m bus) (dest_width m bus) word))
        (takes_told u ms env m i word rules legal is bus ∙ kept)

    by : (b : Bool) → has_bit (buses_of m i.long) bus ≡ b → value u ms env (dest_part m word bus) ≡ says (get_or i.moves bus None)
    by true kept = at true kept ∙ ap says (sym (empty bus lt kept))
    by false kept =
        at false kept ∙ own (get_or i.moves bus None) (slot_in_word m i bus (get_or i.moves bus None) legal lt kept (at_bus bus lt)).0

  -- ---- short words

  -- a short field with bits above it
  high_told : (bus high y : ℕ) → (short_width m bus ≡ 32 → high ≡ 0)
      → value u ms env (Slice (below_payload m bus) (short_width m bus) word) ≡ y
      → value u ms env (with_high m word bus high) ≡ high * 2 ^ short_width m bus + y
  high_told bus high y none is_part = by (short_width m bus == 32) refl where
    own : Expr N M
    own = Slice (below_payload m bus) (short_width m bus) word

    by : (b : Bool) → (short_width m bus == 32) ≡ b
        → value u ms env (if b then own else Join (short_width m bus) (Const (32 - short_width m bus) high) own)
        ≡ high * 2 ^ short_width m bus + y
    by true full =
        let zero_high : high * 2 ^ short_width m bus ≡ 0 * 2 ^ short_width m bus =
        ap (λ (h : ℕ). h * 2 ^ short_width m bus) (none (eqb-true (short_width m bus) 32 full)) in
        is_part ∙ omega arith
    by false some = ap (λ (x : ℕ). high * 2 ^ short_width m bus + x) is_part

  -- the word of a short field
  short_told : (bus w : ℕ) → bus < length m.buses → is_source_on m bus (source.Value w) ≡ true
      → word_of m i / 2 ^ below_payload m bus % 2 ^ payload_width m bus ≡ w % 2 ^ short_width m bus
      → value u ms env (short_part m word bus) ≡ w
  short_told bus w lt held at = by (is_signed m bus) ∙ value_decoded m bus w rules.buses held where
    sw : ℕ
    sw = short_width m bus

    y : ℕ
    y = w % 2 ^ sw

    low : word_of m i / 2 ^ below_payload m bus % 2 ^ short_width m bus ≡ w % 2 ^ short_width m bus
    low =
        sym (low_low (word_of m i / 2 ^ below_payload m bus) (payload_width m bus) (short_width m bus) (omega arith))
        ∙ ap (λ (x : ℕ). x % 2 ^ short_width m bus) at ∙ low_low w (short_width m bus) (short_width m bus) (omega arith)

    by : (s : Bool)
        → value u ms env (if s
        then Select (Slice (below_payload m bus + (short_width m bus - 1)) 1 word)
        (with_high m word bus (2 ^ (32 - short_width m bus) - 1)) (with_high m word bus 0)
        else with_high m word bus 0)
        ≡ short_word s (short_width m bus) (w % 2 ^ short_width m bus)
    by true =
        let fields = narrow m bus rules lt in
        let some = fields.some_short in
        let sign : ℕ = value u ms env word / 2 ^ (below_payload m bus + (sw - 1)) % 2 ^ 1 in
        let signed : sign ≡ y / 2 ^ (sw - 1) % 2 ^ 1 =
        ap (λ (n : ℕ). n / 2 ^ (below_payload m bus + (sw - 1)) % 2 ^ 1) is
        ∙ part_in_part (word_of m i) (below_payload m bus) sw (sw - 1) 1 (omega arith) ∙ ap (λ (x : ℕ). x / 2 ^ (sw - 1) % 2 ^ 1) low in
        let ones : ℕ = 2 ^ (32 - sw) - 1 in
        let none_above : sw ≡ 32 → ones ≡ 0 = λ e. let z : 32 - sw ≡ 0 = omega arith in ap (λ (n : ℕ). 2 ^ n - 1) z in
        ap (λ (x : ℕ). if is_set sign then x else value u ms env (with_high m word bus 0))
        (high_told bus ones y none_above (part_told (below_payload m bus) sw y low))
        ∙ ap (λ (x : ℕ). if is_set sign then ones * 2 ^ sw + y else x)
        (high_told bus 0 y (λ e. refl) (part_told (below_payload m bus) sw y low))
        ∙ extended sw y sign some fields.short (mod_below w (2 ^ sw) (pow_pos sw)) signed
    by false = high_told bus 0 y (λ e. refl) (part_told (below_payload m bus) sw y low) ∙ omega arith

-- ---- all fields

pub fields_serve : FieldsServe
fields_serve u ms env m i rules legal whole has = record {
  template = λ some. has TemplateOf (lt-ltb 0 (template_width m) some) ∙ told ∙ template_is i.long;
  long = λ l here. has LongOf refl ∙ long_by u ms env m i (Signal Whole) rules legal whole i.long told (whole_of m i legal) refl
      ∙ ap (λ (o : Option Long). option_map_or (λ x. x.value) o 0) here;
  dest = λ bus lt some. has (DestOf bus) (there bus lt (dest_width m bus) some)
      ∙ dest_told u ms env m i (Signal Whole) rules legal whole bus lt;
  guard = λ bus v lt some at. has (GuardOf bus) (there bus lt (guard_width m bus) some)
      ∙ part (below_guard m bus) (guard_width m bus) (guard_code m bus v.guard) (stands bus v lt at).0.at_guard;
  tag = λ bus v lt at. has (IsShort bus) (lt-ltb bus (length m.buses) lt)
      ∙ part (below_tag m bus) 1 (bit_value (is_value v.src)) (stands bus v lt at).0.at_tag ∙ mark_of_tag v.src;
  code = λ bus v lt at long. has (SourceOf bus) (lt-ltb bus (length m.buses) lt)
      ∙ part (below_payload m bus) (payload_width m bus) (payload_of m bus v.src) (stands bus v lt at).0.at_payload
      ∙ coded m bus v.src long;
  short = λ bus v w lt at here. has (ShortOf bus) (lt-ltb bus (length m.buses) lt)
      ∙ short_told u ms env m i (Signal Whole) rules legal whole bus w lt
      (subst (λ (src : Source). is_source_on m bus src ≡ true) here (joined_parts m bus v (stands bus v lt at).1).0)
      ((stands bus v lt at).0.at_payload ∙ ap (payload_of m bus) here);
} where
  told : value u ms env (template_part m (Signal Whole)) ≡ template_code i.long
  told = code_told u ms env m i (Signal Whole) rules legal whole

  part : (low width k : ℕ) → word_of m i / 2 ^ low % 2 ^ width ≡ k → value u ms env (Slice low width (Signal Whole)) ≡ k
  part low width k at = part_told u ms env m i (Signal Whole) rules legal whole low width k at

  stands : (bus : ℕ) (v : Move) → bus < length m.buses → slot_at i bus ≡ Some v
      → HasSlot m (word_of m i) bus (Some v) × (is_joined_slot m bus (Some v) ≡ true)
  stands bus v lt at = move_stands u ms env m i (Signal Whole) rules legal whole bus v lt at

  there : (bus : ℕ) → bus < length m.buses → (width : ℕ) → 0 < width → (nat_lt bus (length m.buses) && nat_lt 0 width) ≡ true
  there bus lt width some =
      and_from (nat_lt bus (length m.buses)) (nat_lt 0 width) (lt-ltb bus (length m.buses) lt) (lt-ltb 0 width some)
