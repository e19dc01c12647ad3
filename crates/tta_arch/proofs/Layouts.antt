-- The layout of a machine, part by part.
use Rattle.std.proofs.Common.{◌≡◌, ℕ, zero, suc, ◌+◌, ◌/◌, ◌^◌, ◌<◌, if◌then◌else◌, List, [], ◌∷◌, ◌++◌, length, map, max, get_or, Option, lit<, refl, sym, ap, ◌∙◌, arith}
use Rattle.std.specs.Option.{option_map_or}
use Rattle.std.specs.List.{sum_by, range_with_len, enumerate_from}
use Rattle.std.proofs.lemmas.List.{map-id}
use Rattle.std.proofs.lemmas.List.Sums.{sum_by_push, sum_by-cons}
use Rattle.std.proofs.lemmas.List.FromFn.{map-range_with_len_more, get_or-map-range_with_len, length-map-range_with_len}
use Rattle.std.proofs.lemmas.Option.{slice_get-get_or}
use Rattle.tta_arch.specs.declared.parts.Bus.{Bus}
use Rattle.tta_arch.specs.declared.parts.Guard.{Guard}
use Rattle.tta_arch.specs.declared.ends.Source.{Source}
use Rattle.tta_arch.specs.declared.ends.Dest.{Dest}
use Rattle.tta_arch.specs.Machine.{Machine}
use Rattle.tta_arch.specs.Joins.{has_bit}
use Rattle.tta_arch.specs.Fields.{width_for, taken_width, numbers, guards_on, sources_on, dests_on, short_width, guard_width, payload_width, dest_width, bus_width}
use Rattle.tta_arch.specs.declared.layout.BusFields.{BusFields}
use Rattle.tta_arch.specs.declared.layout.Layout.{Layout}
use Rattle.tta_arch.specs.Layout.{fields_of, layout_of, width_of_set}
use Rattle.tta_arch.proofs.Widths.{no_high}

-- the fields of a bus from their parts
pub fields_from_parts : (m : Machine) (bus : ℕ) (gs : List Guard) (ss : List Source) (ds : List Dest) (gw sw pw dw : ℕ)
    → gs ≡ guards_on m bus → ss ≡ sources_on m bus → ds ≡ dests_on m bus
    → gw ≡ width_for (1 + length gs) → sw ≡ short_width m bus → pw ≡ max sw (width_for (length ss)) → dw ≡ width_for (1 + length ds)
    → ◌≡◌ {A = BusFields}
    (record { guards = gs; sources = ss; dests = ds; guard_width = gw; short_width = sw; payload_width = pw; dest_width = dw; width = gw + (1 + pw) + dw })
    (fields_of m bus)
fields_from_parts m bus gs ss ds gw sw pw dw guards sources dests wide_guard short payload wide_dest =
    let gw' : gw ≡ guard_width m bus = wide_guard ∙ ap (λ (l : List Guard). width_for (1 + length l)) guards in
    let pw' : pw ≡ payload_width m bus = payload ∙ ap (λ (w : ℕ). max w (width_for (length ss))) short ∙ ap (λ (l : List Source). max (short_width m bus) (width_for (length l))) sources in
    let dw' : dw ≡ dest_width m bus = wide_dest ∙ ap (λ (l : List Dest). width_for (1 + length l)) dests in
    rw (guards, sources, dests, gw', short, pw', dw') refl

-- the width of a bus's short field
pub short_width-read : (m : Machine) (buses : List Bus) (bus : ℕ) (b : Bus) → buses ≡ m.buses → bus < length m.buses
    → (get_or buses bus b).short ≡ short_width m bus
short_width-read m buses bus b same h =
    ap (λ (l : List Bus). (get_or l bus b).short) same
    ∙ sym (ap (λ (o : Option Bus). option_map_or (λ b. b.short) o 0) (slice_get-get_or m.buses bus b h))

pub numbers_more : (n : ℕ) → numbers (n + 1) ≡ numbers n ++ n ∷ []
numbers_more n =
    sym (map-id (numbers (n + 1))) ∙ map-range_with_len_more (λ (x : ℕ). x) 0 n n (omega arith) ∙ ap (λ l. l ++ n ∷ []) (map-id (numbers n))

-- a sum over one number more
pub sum_numbers_more : (f : ℕ → ℕ) (n : ℕ) → sum_by f (numbers (n + 1)) ≡ sum_by f (numbers n) + f n
sum_numbers_more f n = ap (λ l. sum_by f l) (numbers_more n) ∙ sum_by_push f (numbers n) n

-- the fields of one bus more
pub fields_more : (m : Machine) (list list' : List BusFields) (f : BusFields) (n : ℕ) → list' ≡ list ++ f ∷ [] → f ≡ fields_of m n
    → list ≡ map (fields_of m) (numbers n) → list' ≡ map (fields_of m) (numbers (n + 1))
fields_more m list list' f n pushed is was =
    pushed ∙ ap (λ x. list ++ x ∷ []) is ∙ ap (λ l. l ++ fields_of m n ∷ []) was ∙ sym (map-range_with_len_more (fields_of m) 0 n n (omega arith))

-- how wide the buses are with one more
pub width_more : (m : Machine) (start width : ℕ) (f : BusFields) (n : ℕ) → f ≡ fields_of m n → width ≡ start + sum_by (bus_width m) (numbers n)
    → width + f.width ≡ start + sum_by (bus_width m) (numbers (n + 1))
width_more m start width f n is was =
    let e : f.width ≡ bus_width m n = ap (λ x. x.width) is in
    let s = sum_numbers_more (bus_width m) n in
    omega arith

-- ---- sums over the buses

-- the width of a bus of a set, numbered
abbrev pub width_at : (set : ℕ) → ℕ × BusFields → ℕ
width_at set b = if has_bit set b.0 then b.1.width else 0

-- the buses of a set by the machine's own widths
abbrev pub set_width_at : Machine → (set : ℕ) → ℕ → ℕ
set_width_at m set bus = if has_bit set bus then bus_width m bus else 0

set_width_from : (m : Machine) (set a n : ℕ)
    → sum_by (width_at set) (enumerate_from a (map (fields_of m) (range_with_len a n))) ≡ sum_by (set_width_at m set) (range_with_len a n)
set_width_from m set a zero = refl
set_width_from m set a (suc n) =
    sum_by-cons (width_at set) (a, fields_of m a) (enumerate_from (a + 1) (map (fields_of m) (range_with_len (a + 1) n)))
    ∙ ap (λ (s : ℕ). set_width_at m set a + s) (set_width_from m set (a + 1) n)
    ∙ sym (sum_by-cons (set_width_at m set) a (range_with_len (a + 1) n))

-- a set's width by the layout is the one by the machine
pub set_width : (m : Machine) (l : Layout) (set : ℕ) → l ≡ layout_of m → width_of_set l set ≡ taken_width m set
set_width m l set is =
    ap (λ (x : Layout). sum_by (width_at set) (enumerate_from 0 x.buses)) is ∙ set_width_from m set 0 (length m.buses)

-- the fields of one bus of a layout
pub layout_bus : (m : Machine) (l : Layout) (bus : ℕ) (d : BusFields) → l ≡ layout_of m → bus < length m.buses → get_or l.buses bus d ≡ fields_of m bus
layout_bus m l bus d is h =
    ap (λ (x : Layout). get_or x.buses bus d) is ∙ get_or-map-range_with_len (fields_of m) 0 (length m.buses) bus bus d h (omega arith)

pub layout_buses : (m : Machine) (l : Layout) → l ≡ layout_of m → length l.buses ≡ length m.buses
layout_buses m l is = ap (λ (x : Layout). length x.buses) is ∙ length-map-range_with_len (fields_of m) 0 (length m.buses)

-- the fields that an index gives
pub layout_bus_read : (m : Machine) (l : Layout) (buses : List BusFields) (bus : ℕ) (f : BusFields) → l ≡ layout_of m → buses ≡ l.buses → bus < length m.buses
    → f ≡ get_or buses bus f → f ≡ fields_of m bus
layout_bus_read m l buses bus f is same h read = read ∙ ap (λ (xs : List BusFields). get_or xs bus f) same ∙ layout_bus m l bus f is h

-- no bus is in the empty set
pub no_bus_in_none : (m : Machine) (xs : List ℕ) → sum_by (set_width_at m 0) xs ≡ 0
no_bus_in_none m [] = refl
no_bus_in_none m (x ∷ xs) =
    let none : 0 / 2 ^ x ≡ 0 = no_high 0 0 x (lit< tt) (omega arith) in
    let w : set_width_at m 0 x ≡ 0 = rw none refl in
    let step = sum_by-cons (set_width_at m 0) x xs in
    let rest = no_bus_in_none m xs in
    omega arith
