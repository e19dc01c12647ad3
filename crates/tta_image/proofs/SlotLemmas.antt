-- The bits of a slot determine its move.
use Rattle.std.proofs.Common.{◌≡◌, ℕ, ◌+◌, ◌%◌, ◌^◌, ◌<◌, ◌≤◌, ◌⊎◌, Bool, true, false, ◌&&◌, List, ◌∷◌, ◌++◌, length, replicate, Option, Some, None, refl, sym, ap, ◌∙◌, inl, inr, arith}
use Rattle.std.proofs.lemmas.Bool.{false≢true, and_parts}
use Rattle.std.proofs.lemmas.List.{length-append, length-replicate, replicate-append-replicate, append_assoc}
use Rattle.std.proofs.lemmas.Nat.{mod_below, pow_pos}
use Rattle.tta_image.specs.Cited.{GuardRef, Source, Dest, Machine, joins, is_source_on, is_dest_on, has_guard, width_for, sources_on, dests_on, guards_on, short_width, guard_width, payload_width, dest_width, bus_width, source_code, dest_code, guard_code, IsMachine, has_source_socket, Move}
use Rattle.tta_arch.specs.declared.ends.Source.TheVariants as source
use Rattle.tta_arch.proofs.Widths.{width_for-enough, pow_le}
use Rattle.tta_image.specs.Bits.{bits_of, source_bits, slot_bits}
use Rattle.tta_image.proofs.Unique.{split_same, length-bits_of, same_number}
use Rattle.tta_image.proofs.ShortWords.{value_tells}
use Rattle.tta_image.proofs.EndsLemmas.{source_code_inside, source_code_tells, dest_code_inside, dest_code_tells, guard_code_inside, guard_code_tells}
use Rattle.tta_image.proofs.BitParts.{bits_of-zero}

-- codes below a number of codes are determined by so many bits
pub code_tells : (codes width a b : ℕ) → a < codes → b < codes → width_for codes ≤ width → bits_of width a ≡ bits_of width b → a ≡ b
code_tells codes width a b ha hb wide same =
    let enough = width_for-enough codes in
    let more = pow_le (width_for codes) width wide in
    same_number width a b (omega arith) (omega arith) same

pub length-source_bits : (m : Machine) (bus : ℕ) (src : Source) → length (source_bits m bus src) ≡ 1 + payload_width m bus
length-source_bits m bus (source.Reg f i) = let e = length-bits_of (payload_width m bus) (source_code m bus (source.Reg f i)) in omega arith
length-source_bits m bus (source.Imm f i) = let e = length-bits_of (payload_width m bus) (source_code m bus (source.Imm f i)) in omega arith
length-source_bits m bus (source.Shown u) = let e = length-bits_of (payload_width m bus) (source_code m bus (source.Shown u)) in omega arith
length-source_bits m bus source.Ra = let e = length-bits_of (payload_width m bus) (source_code m bus source.Ra) in omega arith
length-source_bits m bus (source.Value w) = let e = length-bits_of (payload_width m bus) (w % 2 ^ short_width m bus) in omega arith

-- a slot has as many bits as its bus
pub length-slot_bits : (m : Machine) (bus : ℕ) (slot : Option Move) → length (slot_bits m bus slot) ≡ bus_width m bus
length-slot_bits m bus None = length-replicate (bus_width m bus) false
length-slot_bits m bus (Some v) =
    let guard : List Bool = bits_of (guard_width m bus) (guard_code m bus v.guard) in
    let dst : List Bool = bits_of (dest_width m bus) (dest_code m bus v.dst) in
    let one = length-append guard (source_bits m bus v.src ++ dst) in
    let two = length-append (source_bits m bus v.src) dst in
    let g = length-bits_of (guard_width m bus) (guard_code m bus v.guard) in
    let s = length-source_bits m bus v.src in
    let d = length-bits_of (dest_width m bus) (dest_code m bus v.dst) in
    omega arith

-- ---- sources

-- a source is a short word, or its field is a tag bit 0 and its code
abbrev Kind : Machine → ℕ → Source → Type 0
Kind m bus src =
    ((w : ℕ) × (src ≡ source.Value w))
    ⊎ ((source_bits m bus src ≡ false ∷ bits_of (payload_width m bus) (source_code m bus src)) × (is_source_on m bus src ≡ true → has_source_socket m bus src ≡ true))

kind_of : (m : Machine) (bus : ℕ) (src : Source) → Kind m bus src
kind_of m bus (source.Reg f i) = inr (refl, λ h. h)
kind_of m bus (source.Imm f i) = inr (refl, λ h. h)
kind_of m bus (source.Shown u) = inr (refl, λ h. h)
kind_of m bus source.Ra = inr (refl, λ h. h)
kind_of m bus (source.Value w) = inl (w, refl)

head_same : (a b : Bool) (xs ys : List Bool) → a ∷ xs ≡ b ∷ ys → a ≡ b
head_same a b xs ys h = cc

tail_same : (a b : Bool) (xs ys : List Bool) → a ∷ xs ≡ b ∷ ys → xs ≡ ys
tail_same a b xs ys h = cc

value_bits_tell : (m : Machine) (bus x y : ℕ) → IsMachine m → is_source_on m bus (source.Value x) ≡ true → is_source_on m bus (source.Value y) ≡ true
    → source_bits m bus (source.Value x) ≡ source_bits m bus (source.Value y) → x ≡ y
value_bits_tell m bus x y rules hx hy same =
    let w : ℕ = short_width m bus in
    let wide : 2 ^ w ≤ 2 ^ payload_width m bus = pow_le w (payload_width m bus) (omega arith) in
    let bx = mod_below x (2 ^ w) (pow_pos w) in
    let by = mod_below y (2 ^ w) (pow_pos w) in
    let bits = tail_same true true (bits_of (payload_width m bus) (x % 2 ^ w)) (bits_of (payload_width m bus) (y % 2 ^ w)) same in
    value_tells m bus x y rules.buses hx hy (same_number (payload_width m bus) (x % 2 ^ w) (y % 2 ^ w) (omega arith) (omega arith) bits)

source_by : (m : Machine) (bus : ℕ) (a b : Source) → IsMachine m → is_source_on m bus a ≡ true → is_source_on m bus b ≡ true
    → source_bits m bus a ≡ source_bits m bus b → Kind m bus a → Kind m bus b → a ≡ b
source_by m bus a b rules ha hb same (inl va) (inl vb) =
    va.1 ∙ ap (λ (w : ℕ). source.Value w)
    (value_bits_tell m bus va.0 vb.0 rules (ap (λ (s : Source). is_source_on m bus s) (sym va.1) ∙ ha) (ap (λ (s : Source). is_source_on m bus s) (sym vb.1) ∙ hb)
    (ap (λ (s : Source). source_bits m bus s) (sym va.1) ∙ same ∙ ap (λ (s : Source). source_bits m bus s) vb.1))
    ∙ sym vb.1
source_by m bus a b rules ha hb same (inl va) (inr pb) =
    absurd (false≢true (sym (head_same true false (bits_of (payload_width m bus) (va.0 % 2 ^ short_width m bus)) (bits_of (payload_width m bus) (source_code m bus b))
    (ap (λ (s : Source). source_bits m bus s) (sym va.1) ∙ same ∙ pb.0))))
source_by m bus a b rules ha hb same (inr pa) (inl vb) =
    absurd (false≢true (head_same false true (bits_of (payload_width m bus) (source_code m bus a)) (bits_of (payload_width m bus) (vb.0 % 2 ^ short_width m bus))
    (sym pa.0 ∙ same ∙ ap (λ (s : Source). source_bits m bus s) vb.1)))
source_by m bus a b rules ha hb same (inr pa) (inr pb) =
    let bits = tail_same false false (bits_of (payload_width m bus) (source_code m bus a)) (bits_of (payload_width m bus) (source_code m bus b)) (sym pa.0 ∙ same ∙ pb.0) in
    let sa = pa.1 ha in let sb = pb.1 hb in
    source_code_tells m bus a b sa sb
    (code_tells (length (sources_on m bus)) (payload_width m bus) (source_code m bus a) (source_code m bus b)
    (source_code_inside m bus a sa) (source_code_inside m bus b sb) (omega arith) bits)

pub source_bits_tell : (m : Machine) (bus : ℕ) (a b : Source) → IsMachine m → is_source_on m bus a ≡ true → is_source_on m bus b ≡ true
    → source_bits m bus a ≡ source_bits m bus b → a ≡ b
source_bits_tell m bus a b rules ha hb same = source_by m bus a b rules ha hb same (kind_of m bus a) (kind_of m bus b)

-- ---- slots

-- whether a slot is empty or its move is joined by the bus
abbrev pub is_joined_slot : Machine → ℕ → Option Move → Bool
is_joined_slot m bus None = true
is_joined_slot m bus (Some v) = joins m bus v.src v.dst v.guard

-- a bus can take the word of a move from its source, can bring it to its destination, and has its guard
abbrev pub Joined : Machine → ℕ → Move → Type 0
Joined m bus v = (is_source_on m bus v.src ≡ true) × (is_dest_on m bus v.dst ≡ true) × (has_guard m bus v.guard ≡ true)

pub joined_parts : (m : Machine) (bus : ℕ) (v : Move) → joins m bus v.src v.dst v.guard ≡ true → Joined m bus v
joined_parts m bus v h =
    let outer = and_parts (is_source_on m bus v.src && is_dest_on m bus v.dst) (has_guard m bus v.guard) h in
    let inner = and_parts (is_source_on m bus v.src) (is_dest_on m bus v.dst) outer.0 in
    (inner.0, inner.1, outer.1)

move_from : (a b : Move) → a.guard ≡ b.guard → a.src ≡ b.src → a.dst ≡ b.dst → a ≡ b
move_from a b guard src dst =
    ap (λ (g : Option GuardRef). let v : Move = record { guard = g; src = a.src; dst = a.dst } in v) guard
    ∙ ap (λ (s : Source). let v : Move = record { guard = b.guard; src = s; dst = a.dst } in v) src
    ∙ ap (λ (d : Dest). let v : Move = record { guard = b.guard; src = b.src; dst = d } in v) dst

moves_tell : (m : Machine) (bus : ℕ) (a b : Move) → IsMachine m → Joined m bus a → Joined m bus b → slot_bits m bus (Some a) ≡ slot_bits m bus (Some b) → a ≡ b
moves_tell m bus a b rules ja jb same =
    let ga : List Bool = bits_of (guard_width m bus) (guard_code m bus a.guard) in
    let gb : List Bool = bits_of (guard_width m bus) (guard_code m bus b.guard) in
    let da : List Bool = bits_of (dest_width m bus) (dest_code m bus a.dst) in
    let db : List Bool = bits_of (dest_width m bus) (dest_code m bus b.dst) in
    let one = split_same ga gb (source_bits m bus a.src ++ da) (source_bits m bus b.src ++ db)
    (length-bits_of (guard_width m bus) (guard_code m bus a.guard) ∙ sym (length-bits_of (guard_width m bus) (guard_code m bus b.guard))) same in
    let two = split_same (source_bits m bus a.src) (source_bits m bus b.src) da db (length-source_bits m bus a.src ∙ sym (length-source_bits m bus b.src)) one.1 in
    let guard = code_tells (1 + length (guards_on m bus)) (guard_width m bus) (guard_code m bus a.guard) (guard_code m bus b.guard)
    (guard_code_inside m bus a.guard ja.2) (guard_code_inside m bus b.guard jb.2) (omega arith) one.0 in
    let dst = code_tells (1 + length (dests_on m bus)) (dest_width m bus) (dest_code m bus a.dst) (dest_code m bus b.dst)
    (dest_code_inside m bus a.dst ja.1) (dest_code_inside m bus b.dst jb.1) (omega arith) two.1 in
    move_from a b (guard_code_tells m bus a.guard b.guard ja.2 jb.2 guard) (source_bits_tell m bus a.src b.src rules ja.0 jb.0 two.0)
    (dest_code_tells m bus a.dst b.dst ja.1 jb.1 dst)

-- no move has the bits of an empty slot
move_is_not_empty : (m : Machine) (bus : ℕ) (v : Move) → Joined m bus v → slot_bits m bus (Some v) ≡ slot_bits m bus None → ⊥
move_is_not_empty m bus v j same =
    let gw : ℕ = guard_width m bus in let sw : ℕ = 1 + payload_width m bus in let dw : ℕ = dest_width m bus in
    let guard : List Bool = bits_of gw (guard_code m bus v.guard) in
    let dst : List Bool = bits_of dw (dest_code m bus v.dst) in
    let cut : replicate (bus_width m bus) false ≡ replicate gw false ++ (replicate sw false ++ replicate dw false) =
    sym (replicate-append-replicate (gw + sw) dw false) ∙ ap (λ (l : List Bool). l ++ replicate dw false) (sym (replicate-append-replicate gw sw false))
    ∙ append_assoc (replicate gw false) (replicate sw false) (replicate dw false) in
    let one = split_same guard (replicate gw false) (source_bits m bus v.src ++ dst) (replicate sw false ++ replicate dw false)
    (length-bits_of gw (guard_code m bus v.guard) ∙ sym (length-replicate gw false)) (same ∙ cut) in
    let two = split_same (source_bits m bus v.src) (replicate sw false) dst (replicate dw false) (length-source_bits m bus v.src ∙ sym (length-replicate sw false)) one.1 in
    let none : dest_code m bus v.dst ≡ 0 = code_tells (1 + length (dests_on m bus)) dw (dest_code m bus v.dst) 0
    (dest_code_inside m bus v.dst j.1) (omega arith) (omega arith) (two.1 ∙ sym (bits_of-zero dw)) in
    omega arith

-- slots with the same bits are one
pub slot_bits_tell : (m : Machine) (bus : ℕ) (a b : Option Move) → IsMachine m → is_joined_slot m bus a ≡ true → is_joined_slot m bus b ≡ true
    → slot_bits m bus a ≡ slot_bits m bus b → a ≡ b
slot_bits_tell m bus None None rules ha hb same = refl
slot_bits_tell m bus None (Some b) rules ha hb same = absurd (move_is_not_empty m bus b (joined_parts m bus b hb) (sym same))
slot_bits_tell m bus (Some a) None rules ha hb same = absurd (move_is_not_empty m bus a (joined_parts m bus a ha) same)
slot_bits_tell m bus (Some a) (Some b) rules ha hb same =
    ap (λ (v : Move). Some v) (moves_tell m bus a b rules (joined_parts m bus a ha) (joined_parts m bus b hb) same)
