-- The parts of the instruction's word that a layout tells are those of its machine.
use Rattle.std.proofs.Common.{◌≡◌, ℕ, zero, suc, ◌+◌, ◌-◌, Bool, true, false, List, map, length, sym, ap, refl, ◌∙◌, arith}
use Rattle.std.specs.Prelude.{◌^◌, ◌==◌, min, ◌&&◌, nat_lt, if◌then◌else◌}
use Rattle.std.specs.List.{range_with_len, sum_by}
use Rattle.std.proofs.lemmas.List.Sums.{sum_by-cons}
use Rattle.tta_list.proofs.Lists.{sum_by-map}
use Rattle.tta_rtl.specs.Cited.{Layout, BusFields, Machine, has_bit, bus_width, short_width, fields_of, layout_of, is_signed, Signal, Slice, Const, Join, Select, Expression, buses_width, long_width, below_bus, below_payload, above, shares_from, with_high, short_part, choice, text_of}
use Rattle.tta_hardware.specs.Signals.{Whole}
use Rattle.tta_rtl.specs.Parts.{share_width, above_text, shares_text, high_text, short_text}

-- ---- widths

-- buses of a layout have as many bits together as those of its machine
pub width_of_buses : (m : Machine) (bus n : ℕ) → sum_by (λ f. f.width) (map (fields_of m) (range_with_len bus n)) ≡ buses_width m bus n
width_of_buses m bus n = sum_by-map (λ (f : BusFields). f.width) (fields_of m) (range_with_len bus n)

-- all of them
pub layout_width : (m : Machine) (l : Layout) → l ≡ layout_of m → sum_by (λ f. f.width) l.buses ≡ buses_width m 0 (length m.buses)
layout_width m l is = ap (λ (x : Layout). sum_by (λ f. f.width) x.buses) is ∙ width_of_buses m 0 (length m.buses)

-- those after a bus
pub width_after : (m : Machine) (bus : ℕ) (fs : List BusFields) → fs ≡ map (fields_of m) (range_with_len (bus + 1) (length fs))
    → bus + 1 + length fs ≡ length m.buses → sum_by (λ f. f.width) fs ≡ below_bus m bus
width_after m bus fs are count =
    let left : length fs ≡ length m.buses - (bus + 1) = omega arith in
    ap (sum_by (λ (f : BusFields). f.width)) are ∙ width_of_buses m (bus + 1) (length fs) ∙ ap (buses_width m (bus + 1)) left

-- they have as many bits for a long immediate
pub share_of_buses : (m : Machine) (taken bus n : ℕ) → share_width taken bus (map (fields_of m) (range_with_len bus n)) ≡ long_width m taken bus n
share_of_buses m taken bus zero = refl
share_of_buses m taken bus (suc n) =
    by (has_bit taken bus) (share_of_buses m taken (bus + 1) n)
    ∙ sym (sum_by-cons (λ b. if has_bit taken b then bus_width m b else 0) bus (range_with_len (bus + 1) n))
  where
    by : (b : Bool) → share_width taken (bus + 1) (map (fields_of m) (range_with_len (bus + 1) n)) ≡ long_width m taken (bus + 1) n
        → (if b then bus_width m bus + share_width taken (bus + 1) (map (fields_of m) (range_with_len (bus + 1) n))
        else share_width taken (bus + 1) (map (fields_of m) (range_with_len (bus + 1) n)))
        ≡ (if b then bus_width m bus else 0) + long_width m taken (bus + 1) n
    by true same = ap (λ (k : ℕ). bus_width m bus + k) same
    by false same = omega arith

-- ---- texts

-- one of two expressions, as text
either : (m : Machine) (b : Bool) (x y : Expression) → (if b then text_of m x else text_of m y) ≡ text_of m (if b then x else y)
either m true x y = refl
either m false x y = refl

-- a part of the word with something below it
above_is : (m : Machine) (left low width : ℕ) (rest : Expression)
    → above_text left low width (text_of m rest) ≡ text_of m (above (Signal Whole) left low width rest)
above_is m left low width rest = either m (left == 0) (Slice low width (Signal Whole)) (Join left (Slice low width (Signal Whole)) rest)

-- what buses of a machine have of a long immediate
shares_of_buses : (m : Machine) (taken bus n : ℕ)
    → shares_text taken bus (map (fields_of m) (range_with_len bus n)) ≡ text_of m (shares_from m (Signal Whole) taken bus n)
shares_of_buses m taken bus zero = refl
shares_of_buses m taken bus (suc n) =
    let rest = shares_of_buses m taken (bus + 1) n in
    let left = long_width m taken (bus + 1) n in
    let low = buses_width m (bus + 1) n in
    let width = min (bus_width m bus) (32 - left) in
    let below = shares_from m (Signal Whole) taken (bus + 1) n in
    ap (λ (k : ℕ). if has_bit taken bus && nat_lt k 32
    then above_text k (sum_by (λ f. f.width) (map (fields_of m) (range_with_len (bus + 1) n))) (min (bus_width m bus) (32 - k))
    (shares_text taken (bus + 1) (map (fields_of m) (range_with_len (bus + 1) n)))
    else shares_text taken (bus + 1) (map (fields_of m) (range_with_len (bus + 1) n))) (share_of_buses m taken (bus + 1) n)
    ∙ ap (λ (k : ℕ). if has_bit taken bus && nat_lt left 32
    then above_text left k width (shares_text taken (bus + 1) (map (fields_of m) (range_with_len (bus + 1) n)))
    else shares_text taken (bus + 1) (map (fields_of m) (range_with_len (bus + 1) n))) (width_of_buses m (bus + 1) n)
    ∙ ap (λ (t : List ℕ). if has_bit taken bus && nat_lt left 32 then above_text left low width t else t) rest
    ∙ ap (λ (t : List ℕ). if has_bit taken bus && nat_lt left 32 then t else text_of m below) (above_is m left low width below)
    ∙ either m (has_bit taken bus && nat_lt left 32) (above (Signal Whole) left low width below) below

-- what all buses of a layout have of it
pub shares_of_layout : (m : Machine) (l : Layout) (taken : ℕ) → l ≡ layout_of m
    → shares_text taken 0 l.buses ≡ text_of m (shares_from m (Signal Whole) taken 0 (length m.buses))
shares_of_layout m l taken is = ap (λ (x : Layout). shares_text taken 0 x.buses) is ∙ shares_of_buses m taken 0 (length m.buses)

-- a short field with these bits above it
high_is : (m : Machine) (bus high : ℕ)
    → high_text (below_payload m bus) (short_width m bus) high ≡ text_of m (with_high m (Signal Whole) bus high)
high_is m bus high =
    either m (short_width m bus == 32) (Slice (below_payload m bus) (short_width m bus) (Signal Whole))
    (Join (short_width m bus) (Const (32 - short_width m bus) high) (Slice (below_payload m bus) (short_width m bus) (Signal Whole)))

-- the word of a short field
pub short_is : (m : Machine) (bus : ℕ)
    → short_text (below_payload m bus) (short_width m bus) (is_signed m bus) ≡ text_of m (short_part m (Signal Whole) bus)
short_is m bus =
    let top : Expression = Slice (below_payload m bus + (short_width m bus - 1)) 1 (Signal Whole) in
    let ones = 2 ^ (32 - short_width m bus) - 1 in
    let off = with_high m (Signal Whole) bus 0 in
    ap (λ (t : List ℕ). if is_signed m bus then choice (text_of m top) (high_text (below_payload m bus) (short_width m bus) ones) t else t) (high_is m bus 0)
    ∙ ap (λ (t : List ℕ). if is_signed m bus then choice (text_of m top) t (text_of m off) else text_of m off) (high_is m bus ones)
    ∙ either m (is_signed m bus) (Select top (with_high m (Signal Whole) bus ones) off) off
