-- What the bits of a slot decode to is the slot that has these bits.
use Rattle.std.proofs.Common.{◌≡◌, ℕ, suc, ◌+◌, ◌^◌, ◌<◌, ◌≤◌, ◌==◌, Bool, true, false, not, ◌&&◌, nat_lt, if◌then◌else◌, List, [], ◌∷◌, ◌++◌, length, replicate, take, drop, Option, Some, None, option_map, refl, sym, ap, ◌∙◌, arith}
use Rattle.std.proofs.Math.Seq.{take-add}
use Rattle.std.proofs.lemmas.Bool.{and_parts, eqb-true, not-true, ltb-true}
use Rattle.std.proofs.lemmas.Option.{none-some, same_Some}
use Rattle.std.proofs.lemmas.List.{append_assoc, length-append, length-drop, length-take-le, drop-drop, take_at, drop_at, replicate-append-replicate}
use Rattle.tta_parse.specs.Steps.{◌>>?◌}
use Rattle.tta_parse.proofs.Steps.{then-some}
use Rattle.tta_image.specs.Cited.{Source, BusFields, Machine, short_width, guard_width, payload_width, dest_width, source_code, dest_code, fields_of, IsMachine, Move}
use Rattle.tta_arch.specs.declared.ends.Source.TheVariants as source
use Rattle.tta_image.specs.declared.slots.SlotNumbers.{SlotNumbers}
use Rattle.tta_image.specs.Bits.{bits_of, source_bits, slot_bits}
use Rattle.tta_image.specs.Decoding.{number_of, field, slot_numbers, decoded_guard, short_word, decoded_source, decoded_dest, decoded_move, decoded_slot, is_signed}
use Rattle.tta_image.proofs.Unique.{length-bits_of}
use Rattle.tta_image.proofs.Numbers.{bits_of-number_of, number_of-bits_of_small}
use Rattle.tta_image.proofs.BitParts.{bits_of-zero}
use Rattle.tta_image.proofs.CodesDecoded.{guard_code-decoded, source_code_at, no_value_at, dest_code-decoded}
use Rattle.tta_image.proofs.ShortDecoded.{short_word-low}
use Rattle.tta_image.proofs.NarrowFields.{narrow}
use Rattle.tta_image.proofs.FieldParts.{same_numbers}

-- ---- numbers and bits

-- the bits of the numbers in a slot's fields
abbrev pub bits_of_numbers : BusFields → SlotNumbers → List Bool
bits_of_numbers f n = bits_of f.guard_width n.guard ++ ((n.is_short ∷ bits_of f.payload_width n.payload) ++ bits_of f.dest_width n.dest)

piece_length : (at w : ℕ) (bits : List Bool) → at + w ≤ length bits → length (take w (drop at bits)) ≡ w
piece_length at w bits h = length-take-le w (drop at bits) (let d = length-drop at bits in omega arith)

tag_by : (b : Bool) → (number_of (b ∷ []) == 1) ≡ b
tag_by true = refl
tag_by false = refl

-- a list of one bit
tag_piece : (bits : List Bool) → length bits ≡ 1 → bits ≡ (number_of bits == 1) ∷ []
tag_piece [] h = absurd (omega arith)
tag_piece (b ∷ []) h = ap (λ (x : Bool). x ∷ []) (sym (tag_by b))
tag_piece (b ∷ c ∷ bits) h = absurd (omega arith)

-- the first bits are those of the numbers in the fields
pub pieces_of_slot : (f : BusFields) (bits : List Bool) → f.width ≡ f.guard_width + (1 + f.payload_width) + f.dest_width → f.width ≤ length bits
    → take f.width bits ≡ bits_of_numbers f (slot_numbers f bits)
pieces_of_slot f bits whole enough =
    let g : ℕ = f.guard_width in let p : ℕ = f.payload_width in let d : ℕ = f.dest_width in
    let e : f.width ≡ g + (1 + (p + d)) = omega arith in
    let at1 : drop 1 (drop g bits) ≡ drop (g + 1) bits = drop-drop 1 g bits in
    let at2 : drop p (drop (g + 1) bits) ≡ drop (g + 1 + p) bits = drop-drop p (g + 1) bits in
    let guard = bits_of-number_of (take g bits) g (field 0 g bits) (piece_length 0 g bits (omega arith)) refl in
    let tag = tag_piece (take 1 (drop g bits)) (piece_length g 1 bits (omega arith)) in
    let payload = bits_of-number_of (take p (drop (g + 1) bits)) p (field (g + 1) p bits) (piece_length (g + 1) p bits (omega arith)) refl in
    let dst = bits_of-number_of (take d (drop (g + 1 + p) bits)) d (field (g + 1 + p) d bits) (piece_length (g + 1 + p) d bits (omega arith)) refl in
    ap (λ (n : ℕ). take n bits) e ∙ take-add g (1 + (p + d)) bits
    ∙ ap (λ (l : List Bool). take g bits ++ l) (take-add 1 (p + d) (drop g bits)
    ∙ ap (λ (l : List Bool). take 1 (drop g bits) ++ take (p + d) l) at1
    ∙ ap (λ (l : List Bool). take 1 (drop g bits) ++ l) (take-add p d (drop (g + 1) bits) ∙ ap (λ (l : List Bool). take p (drop (g + 1) bits) ++ take d l) at2))
    ∙ ap (λ (l : List Bool). l ++ (take 1 (drop g bits) ++ (take p (drop (g + 1) bits) ++ take d (drop (g + 1 + p) bits)))) (sym guard)
    ∙ ap (λ (l : List Bool). bits_of g (field 0 g bits) ++ (l ++ (take p (drop (g + 1) bits) ++ take d (drop (g + 1 + p) bits)))) tag
    ∙ ap (λ (l : List Bool). bits_of g (field 0 g bits) ++ ((field g 1 bits == 1) ∷ (l ++ take d (drop (g + 1 + p) bits)))) (sym payload)
    ∙ ap (λ (l : List Bool). bits_of g (field 0 g bits) ++ ((field g 1 bits == 1) ∷ (bits_of p (field (g + 1) p bits) ++ l))) (sym dst)

-- numbers that fit the fields of a slot
pub record Fit (f : BusFields) (n : SlotNumbers) : Type 0 where
  pub guard : n.guard < 2 ^ f.guard_width
  pub payload : n.payload < 2 ^ f.payload_width
  pub dest : n.dest < 2 ^ f.dest_width

-- a field in the middle of bits
middle : (front own rest all : List Bool) (at w n : ℕ) → all ≡ front ++ (own ++ rest) → length front ≡ at → length own ≡ w → number_of own ≡ n → field at w all ≡ n
middle front own rest all at w n is begins long tells =
    ap (λ (l : List Bool). number_of (take w (drop at l))) is ∙ ap (λ (l : List Bool). number_of (take w l)) (drop_at front (own ++ rest) at begins)
    ∙ ap number_of (take_at own rest w long) ∙ tells

-- the numbers in the fields are those whose bits they have
pub numbers_of_bits : (f : BusFields) (n : SlotNumbers) (rest : List Bool) → Fit f n → slot_numbers f (bits_of_numbers f n ++ rest) ≡ n
numbers_of_bits f n rest fit =
    let g : List Bool = bits_of f.guard_width n.guard in let t : List Bool = n.is_short ∷ [] in
    let p : List Bool = bits_of f.payload_width n.payload in let d : List Bool = bits_of f.dest_width n.dest in
    let all : List Bool = bits_of_numbers f n ++ rest in
    let lg = length-bits_of f.guard_width n.guard in let lp = length-bits_of f.payload_width n.payload in let ld = length-bits_of f.dest_width n.dest in
    let one : all ≡ g ++ (t ++ (p ++ (d ++ rest))) =
    append_assoc g ((t ++ p) ++ d) rest ∙ ap (λ (l : List Bool). g ++ (n.is_short ∷ l)) (append_assoc p d rest) in
    let two : all ≡ (g ++ t) ++ (p ++ (d ++ rest)) = one ∙ sym (append_assoc g t (p ++ (d ++ rest))) in
    let three : all ≡ ((g ++ t) ++ p) ++ (d ++ rest) = two ∙ sym (append_assoc (g ++ t) p (d ++ rest)) in
    let lgt : length (g ++ t) ≡ f.guard_width + 1 = length-append g t ∙ ap (λ (k : ℕ). k + 1) lg in
    let lgtp : length ((g ++ t) ++ p) ≡ f.guard_width + 1 + f.payload_width = let e = length-append (g ++ t) p in omega arith in
    let guard = middle [] g (t ++ (p ++ (d ++ rest))) all 0 f.guard_width n.guard one refl lg (number_of-bits_of_small f.guard_width n.guard fit.guard) in
    let tag = middle g t (p ++ (d ++ rest)) all f.guard_width 1 (number_of t) one lg refl refl in
    let payload = middle (g ++ t) p (d ++ rest) all (f.guard_width + 1) f.payload_width n.payload two lgt lp (number_of-bits_of_small f.payload_width n.payload fit.payload) in
    let dst = middle ((g ++ t) ++ p) d rest all (f.guard_width + 1 + f.payload_width) f.dest_width n.dest three lgtp ld (number_of-bits_of_small f.dest_width n.dest fit.dest) in
    same_numbers (slot_numbers f all) n guard (ap (λ (k : ℕ). k == 1) tag ∙ tag_by n.is_short) payload dst

-- ---- what is said has the bits

-- a source that is no short word has a tag bit 0 and its code
code_bits_by : (m : Machine) (bus : ℕ) (src : Source) → ((w : ℕ) → src ≡ source.Value w → ⊥)
    → source_bits m bus src ≡ false ∷ bits_of (payload_width m bus) (source_code m bus src)
code_bits_by m bus (source.Reg f i) other = refl
code_bits_by m bus (source.Imm u i) other = refl
code_bits_by m bus (source.Shown u) other = refl
code_bits_by m bus source.Ra other = refl
code_bits_by m bus (source.Value w) other = absurd (other w refl)

decoded_source-bits : (m : Machine) (bus : ℕ) (is_short : Bool) (payload : ℕ) (src : Source) → IsMachine m → bus < length m.buses
    → decoded_source (fields_of m bus) (is_signed m bus) is_short payload ≡ Some src → source_bits m bus src ≡ is_short ∷ bits_of (payload_width m bus) payload
decoded_source-bits m bus true payload src rules h said = by (nat_lt payload (2 ^ short_width m bus)) refl said where
  by : (b : Bool) → nat_lt payload (2 ^ short_width m bus) ≡ b
      → (if b then Some (source.Value (short_word (is_signed m bus) (short_width m bus) payload)) else None) ≡ Some src
      → source_bits m bus src ≡ true ∷ bits_of (payload_width m bus) payload
  by true is e =
      let most = (narrow m bus rules h).short in
      ap (source_bits m bus) (sym (same_Some (source.Value (short_word (is_signed m bus) (short_width m bus) payload)) src e))
      ∙ ap (λ (n : ℕ). true ∷ bits_of (payload_width m bus) n) (short_word-low (is_signed m bus) (short_width m bus) payload most (ltb-true payload (2 ^ short_width m bus) is))
  by false is e = absurd (none-some src e)
decoded_source-bits m bus false payload src rules h said =
    code_bits_by m bus src (λ w e. no_value_at m bus payload w rules (said ∙ ap (λ (s : Source). Some s) e))
    ∙ ap (λ (n : ℕ). false ∷ bits_of (payload_width m bus) n) (source_code_at m bus payload src rules said)

decoded_move-bits : (m : Machine) (bus : ℕ) (n : SlotNumbers) (v : Move) → IsMachine m → bus < length m.buses → (n.dest == 0) ≡ false
    → decoded_move (fields_of m bus) (is_signed m bus) n ≡ Some v → slot_bits m bus (Some v) ≡ bits_of_numbers (fields_of m bus) n
decoded_move-bits m bus n v rules h some said =
    let f : BusFields = fields_of m bus in
    let guard = then-some (decoded_guard f n.guard) (λ guard. decoded_source f (is_signed m bus) n.is_short n.payload >>? λ src. decoded_dest f n.dest >>? λ dst. Some (record { guard = guard; src = src; dst = dst })) v said in
    let src = then-some (decoded_source f (is_signed m bus) n.is_short n.payload) (λ src. decoded_dest f n.dest >>? λ dst. Some (record { guard = guard.0; src = src; dst = dst })) v guard.2 in
    let dst = then-some (decoded_dest f n.dest) (λ dst. Some (record { guard = guard.0; src = src.0; dst = dst })) v src.2 in
    let w : Move = record { guard = guard.0; src = src.0; dst = dst.0 } in
    ap (λ (x : Move). slot_bits m bus (Some x)) (sym (same_Some w v dst.2))
    ∙ ap (λ (k : ℕ). bits_of (guard_width m bus) k ++ (source_bits m bus src.0 ++ bits_of (dest_width m bus) (dest_code m bus dst.0))) (guard_code-decoded m bus n.guard guard.0 rules guard.1)
    ∙ ap (λ (l : List Bool). bits_of (guard_width m bus) n.guard ++ (l ++ bits_of (dest_width m bus) (dest_code m bus dst.0))) (decoded_source-bits m bus n.is_short n.payload src.0 rules h src.1)
    ∙ ap (λ (k : ℕ). bits_of (guard_width m bus) n.guard ++ ((n.is_short ∷ bits_of (payload_width m bus) n.payload) ++ bits_of (dest_width m bus) k)) (dest_code-decoded m bus n.dest dst.0 rules some dst.1)

-- an empty slot has the bits of zeros
pub empty_bits : (m : Machine) (bus : ℕ) (n : SlotNumbers) → n.guard ≡ 0 → n.is_short ≡ false → n.payload ≡ 0 → n.dest ≡ 0
    → slot_bits m bus None ≡ bits_of_numbers (fields_of m bus) n
empty_bits m bus n guard short payload dst =
    let gw : ℕ = guard_width m bus in let pw : ℕ = payload_width m bus in let dw : ℕ = dest_width m bus in
    sym (replicate-append-replicate (gw + (1 + pw)) dw false) ∙ ap (λ (l : List Bool). l ++ replicate dw false) (sym (replicate-append-replicate gw (1 + pw) false))
    ∙ append_assoc (replicate gw false) (replicate (1 + pw) false) (replicate dw false)
    ∙ ap (λ (l : List Bool). l ++ (replicate (1 + pw) false ++ replicate dw false)) (sym (bits_of-zero gw) ∙ ap (λ (k : ℕ). bits_of gw k) (sym guard))
    ∙ ap (λ (k : ℕ). bits_of gw n.guard ++ (replicate k false ++ replicate dw false)) (let e : 1 + pw ≡ suc pw = omega arith in e)
    ∙ ap (λ (b : Bool). bits_of gw n.guard ++ ((b ∷ replicate pw false) ++ replicate dw false)) (sym short)
    ∙ ap (λ (l : List Bool). bits_of gw n.guard ++ ((n.is_short ∷ l) ++ replicate dw false)) (sym (bits_of-zero pw) ∙ ap (λ (k : ℕ). bits_of pw k) (sym payload))
    ∙ ap (λ (l : List Bool). bits_of gw n.guard ++ ((n.is_short ∷ bits_of pw n.payload) ++ l)) (sym (bits_of-zero dw) ∙ ap (λ (k : ℕ). bits_of dw k) (sym dst))

-- the slot that numbers decode to has their bits
pub decoded_slot-bits : (m : Machine) (bus : ℕ) (n : SlotNumbers) (slot : Option Move) → IsMachine m → bus < length m.buses
    → decoded_slot (fields_of m bus) (is_signed m bus) n ≡ Some slot → slot_bits m bus slot ≡ bits_of_numbers (fields_of m bus) n
decoded_slot-bits m bus n slot rules h said = by (n.dest == 0) refl said where
  moved : (n.dest == 0) ≡ false → (o : Option Move) → decoded_move (fields_of m bus) (is_signed m bus) n ≡ o → option_map (λ v. Some v) o ≡ Some slot
      → slot_bits m bus slot ≡ bits_of_numbers (fields_of m bus) n
  moved some None is e = absurd (none-some slot e)
  moved some (Some v) is e = ap (slot_bits m bus) (sym (same_Some (Some v) slot e)) ∙ decoded_move-bits m bus n v rules h some is

  empty : n.dest ≡ 0 → (b : Bool) → (n.guard == 0 && (not n.is_short && n.payload == 0)) ≡ b → (if b then Some None else None) ≡ Some slot
      → slot_bits m bus slot ≡ bits_of_numbers (fields_of m bus) n
  empty none true zeros e =
      let outer = and_parts (n.guard == 0) (not n.is_short && n.payload == 0) zeros in
      let inner = and_parts (not n.is_short) (n.payload == 0) outer.1 in
      ap (slot_bits m bus) (sym (same_Some None slot e))
      ∙ empty_bits m bus n (eqb-true n.guard 0 outer.0) (not-true n.is_short inner.0) (eqb-true n.payload 0 inner.1) none
  empty none false zeros e = absurd (none-some slot e)

  by : (b : Bool) → (n.dest == 0) ≡ b
      → (if b then (if n.guard == 0 && (not n.is_short && n.payload == 0) then Some None else None) else option_map (λ v. Some v) (decoded_move (fields_of m bus) (is_signed m bus) n)) ≡ Some slot
      → slot_bits m bus slot ≡ bits_of_numbers (fields_of m bus) n
  by true is e = empty (eqb-true n.dest 0 is) (n.guard == 0 && (not n.is_short && n.payload == 0)) refl e
  by false is e = moved is (decoded_move (fields_of m bus) (is_signed m bus) n) refl e
