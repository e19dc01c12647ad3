-- The bits of instructions, field by field.
use Rattle.std.proofs.Common.{◌≡◌, ℕ, suc, ◌+◌, ◌-◌, ◌<◌, ◌≤◌, Bool, true, false, List, ◌∷◌, ◌++◌, length, get_or, take, drop, Option, Some, None, refl, sym, ap, ◌∙◌, arith}
use Rattle.std.specs.List.{sum_by, range_with_len}
use Rattle.std.proofs.lemmas.List.{drop_more, append_assoc}
use Rattle.std.proofs.lemmas.List.Sums.{sum_by-cons}
use Rattle.tta_image.specs.Cited.{GuardRef, Source, Machine, has_bit, guard_code, dest_code, taken_width, template_width, numbers, guard_width, dest_width, bus_width, BusFields, Layout, Move, Long, Instruction, fields_of, layout_of}
use Rattle.tta_arch.specs.declared.ends.Source.TheVariants as source
use Rattle.tta_image.specs.Bits.{bits_of, source_bits, slot_bits, slots_bits, template_code, long_bits, instruction_bits}
use Rattle.tta_image.specs.Fields.{source_field, guard_number, slot_field, bus_field, left_after, buses_of, value_of}
use Rattle.tta_arch.proofs.Layouts.{set_width_at, no_bus_in_none}
use Rattle.tta_image.proofs.BitLemmas.{drop_left}

-- how many bits are left before a bus: its own, if it is taken, and those after it
pub left_splits : (m : Machine) (set bus n : ℕ) → bus < n
    → sum_by (set_width_at m set) (range_with_len bus (n - bus)) ≡ set_width_at m set bus + sum_by (set_width_at m set) (range_with_len (bus + 1) (n - (bus + 1)))
left_splits m set bus n h =
    let e : n - bus ≡ suc (n - (bus + 1)) = omega arith in
    ap (λ (k : ℕ). sum_by (set_width_at m set) (range_with_len bus k)) e
    ∙ sum_by-cons (set_width_at m set) bus (range_with_len (bus + 1) (n - (bus + 1)))

-- ---- the bits of a move

source_same : (m : Machine) (bus : ℕ) (src : Source) → source_field (fields_of m bus) src ≡ source_bits m bus src
source_same m bus (source.Reg f i) = refl
source_same m bus (source.Imm f i) = refl
source_same m bus (source.Shown u) = refl
source_same m bus source.Ra = refl
source_same m bus (source.Value w) = refl

guard_same : (m : Machine) (bus : ℕ) (guard : Option GuardRef) → guard_number (fields_of m bus) guard ≡ guard_code m bus guard
guard_same m bus None = refl
guard_same m bus (Some on) = refl

-- a slot's fields are its bits
pub slot_same : (m : Machine) (bus : ℕ) (slot : Option Move) → slot_field (fields_of m bus) slot ≡ slot_bits m bus slot
slot_same m bus None = refl
slot_same m bus (Some v) =
    ap (λ (c : ℕ). bits_of (guard_width m bus) c ++ (source_field (fields_of m bus) v.src ++ bits_of (dest_width m bus) (dest_code m bus v.dst))) (guard_same m bus v.guard)
    ∙ ap (λ (l : List Bool). bits_of (guard_width m bus) (guard_code m bus v.guard) ++ (l ++ bits_of (dest_width m bus) (dest_code m bus v.dst))) (source_same m bus v.src)

slots_step : (m : Machine) (taken value left bus : ℕ) (slot : Option Move) (slots : List (Option Move)) (b : Bool) → has_bit taken bus ≡ b → (b ≡ true → bus_width m bus ≤ left)
    → slots_bits m taken (bits_of left value) bus (slot ∷ slots)
    ≡ bus_field (fields_of m bus) b left value slot ++ slots_bits m taken (bits_of (left_after (fields_of m bus) b left) value) (bus + 1) slots
slots_step m taken value left bus slot slots true is enough =
    rw is (ap (λ (l : List Bool). take (bus_width m bus) (bits_of left value) ++ slots_bits m taken l (bus + 1) slots) (drop_left (bus_width m bus) left value (enough refl)))
slots_step m taken value left bus slot slots false is enough =
    rw is (ap (λ (l : List Bool). l ++ slots_bits m taken (bits_of left value) (bus + 1) slots) (sym (slot_same m bus slot)))

left_of : (m : Machine) (set bus left left' rest : ℕ) (f : BusFields) (b : Bool) → has_bit set bus ≡ b → f ≡ fields_of m bus → left ≡ set_width_at m set bus + rest
    → left' ≡ left_after f b left → left' ≡ rest
left_of m set bus left left' rest f true bit is was after =
    let w : set_width_at m set bus ≡ bus_width m bus = rw bit refl in let e = ap (λ (x : BusFields). x.width) is in omega arith
left_of m set bus left left' rest f false bit is was after =
    let w : set_width_at m set bus ≡ 0 = rw bit refl in omega arith

-- how many bits are left after one bus more
pub left_more : (m : Machine) (set bus n left left' : ℕ) (f : BusFields) (here : Bool) → bus < n → f ≡ fields_of m bus → here ≡ has_bit set bus
    → left ≡ sum_by (set_width_at m set) (range_with_len bus (n - bus)) → left' ≡ left_after f here left
    → left' ≡ sum_by (set_width_at m set) (range_with_len (bus + 1) (n - (bus + 1)))
left_more m set bus n left left' f here h is takes was after =
    left_of m set bus left left' (sum_by (set_width_at m set) (range_with_len (bus + 1) (n - (bus + 1)))) f here (sym takes) is (was ∙ left_splits m set bus n h) after

-- enough bits are left for a bus that is taken
pub left_enough : (m : Machine) (set bus n left : ℕ) (f : BusFields) → bus < n → f ≡ fields_of m bus
    → left ≡ sum_by (set_width_at m set) (range_with_len bus (n - bus)) → has_bit set bus ≡ true → f.width ≤ left
left_enough m set bus n left f h is was bit =
    let split = left_splits m set bus n h in
    let w : set_width_at m set bus ≡ bus_width m bus = rw bit refl in
    let e = ap (λ (x : BusFields). x.width) is in
    omega arith

-- one bus more
pub slots_more : (m : Machine) (taken value left left' bus : ℕ) (moves : List (Option Move)) (slot : Option Move) (f : BusFields) (here : Bool) (sink sink' all : List Bool)
    → bus < length moves → slot ≡ get_or moves bus None → f ≡ fields_of m bus → here ≡ has_bit taken bus
    → sink' ≡ sink ++ bus_field f here left value slot → left' ≡ left_after f here left
    → left ≡ sum_by (set_width_at m taken) (range_with_len bus (length moves - bus))
    → sink ++ slots_bits m taken (bits_of left value) bus (drop bus moves) ≡ all
    → sink' ++ slots_bits m taken (bits_of left' value) (bus + 1) (drop (bus + 1) moves) ≡ all
slots_more m taken value left left' bus moves slot f here sink sink' all h at is takes wrote after enough was =
    let b : Bool = has_bit taken bus in
    let rest : List (Option Move) = drop (bus + 1) moves in
    let own : b ≡ true → bus_width m bus ≤ left =
    λ t. let e : f.width ≡ bus_width m bus = ap (λ (x : BusFields). x.width) is in let le = left_enough m taken bus (length moves) left f h is enough t in omega arith in
    ap (λ (l : List Bool). l ++ slots_bits m taken (bits_of left' value) (bus + 1) rest)
    (wrote ∙ ap (λ (x : BusFields). sink ++ bus_field x here left value slot) is ∙ ap (λ (x : Bool). sink ++ bus_field (fields_of m bus) x left value slot) takes)
    ∙ ap (λ (k : ℕ). (sink ++ bus_field (fields_of m bus) b left value slot) ++ slots_bits m taken (bits_of k value) (bus + 1) rest)
    (after ∙ ap (λ (x : BusFields). left_after x here left) is ∙ ap (λ (x : Bool). left_after (fields_of m bus) x left) takes)
    ∙ append_assoc sink (bus_field (fields_of m bus) b left value slot) (slots_bits m taken (bits_of (left_after (fields_of m bus) b left) value) (bus + 1) rest)
    ∙ ap (λ (l : List Bool). sink ++ l) (sym (slots_step m taken value left bus slot rest b refl own))
    ∙ ap (λ (l : List (Option Move)). sink ++ slots_bits m taken (bits_of left value) bus l) (ap (λ (o : Option Move). o ∷ rest) at ∙ sym (drop_more moves bus None h))
    ∙ was

-- ---- whole instructions

long_same : (m : Machine) (long : Option Long) → bits_of (taken_width m (buses_of m long)) (value_of long) ≡ long_bits m (buses_of m long) long
long_same m None = ap (λ (w : ℕ). bits_of w 0) (no_bus_in_none m (numbers (length m.buses)))
long_same m (Some l) = refl

-- the template's field and the buses
pub instruction_from : (m : Machine) (l : Layout) (i : Instruction) (taken value code : ℕ) (moves : List (Option Move)) (sink sink' sink'' : List Bool)
    → moves ≡ i.moves → l ≡ layout_of m → taken ≡ buses_of m i.long → value ≡ value_of i.long → code ≡ template_code i.long
    → sink' ≡ sink ++ bits_of l.template_width code
    → sink'' ≡ sink' ++ slots_bits m taken (bits_of (taken_width m taken) value) 0 moves
    → sink'' ≡ sink ++ instruction_bits m i
unfolding instruction_bits
instruction_from m l i taken value code moves sink sink' sink'' slots is takes has names first second =
    let template : List Bool = bits_of (template_width m) (template_code i.long) in
    let first' : sink' ≡ sink ++ template =
    first ∙ ap (λ (x : Layout). sink ++ bits_of x.template_width code) is ∙ ap (λ (n : ℕ). sink ++ bits_of (template_width m) n) names in
    second ∙ ap (λ (s : List (Option Move)). sink' ++ slots_bits m taken (bits_of (taken_width m taken) value) 0 s) slots
    ∙ ap (λ (t : ℕ). sink' ++ slots_bits m t (bits_of (taken_width m t) value) 0 i.moves) takes
    ∙ ap (λ (v : ℕ). sink' ++ slots_bits m (buses_of m i.long) (bits_of (taken_width m (buses_of m i.long)) v) 0 i.moves) has
    ∙ ap (λ (b : List Bool). sink' ++ slots_bits m (buses_of m i.long) b 0 i.moves) (long_same m i.long)
    ∙ ap (λ (s : List Bool). s ++ slots_bits m (buses_of m i.long) (long_bits m (buses_of m i.long) i.long) 0 i.moves) first'
    ∙ append_assoc sink template (slots_bits m (buses_of m i.long) (long_bits m (buses_of m i.long) i.long) 0 i.moves)
