-- The layout of a machine.
use Rattle.std.proofs.Common.{◌≡◌, ◌≤◌, ◌<◌, ◌^◌, ◌*◌, List, [], ◌∷◌, map, length, sym, ap, ◌∙◌, arith}
use Rattle.std.specs.List.{range_with_len, sum_by}
use Rattle.std.proofs.lemmas.List.Sums.{sum_by-cons}
use Rattle.std.proofs.lemmas.List.FromFn.{length-map-range_with_len}
use Rattle.tta_rtl.specs.Cited.{Layout, BusFields, Machine, IsMachine, fields_of, layout_of, AreNarrow}
use Rattle.tta_image.proofs.NarrowFields.{narrow_layout}

-- a layout has the fields of as many buses as its machine
pub layout_count : (m : Machine) (l : Layout) → l ≡ layout_of m → length l.buses ≡ length m.buses
layout_count m l is = ap (λ (x : Layout). length x.buses) is ∙ length-map-range_with_len (fields_of m) 0 (length m.buses)

-- the fields of a layout are those of as many buses as it has
pub layout_fields : (m : Machine) (l : Layout) → l ≡ layout_of m → l.buses ≡ map (fields_of m) (range_with_len 0 (length l.buses))
layout_fields m l is = ap (λ (x : Layout). x.buses) is ∙ ap (λ n. map (fields_of m) (range_with_len 0 n)) (sym (layout_count m l is))

-- narrow fields have few bits together
few_bits : (fs : List BusFields) → AreNarrow fs → sum_by (λ f. f.width) fs ≤ 55 * length fs
few_bits [] h = omega arith
few_bits (f ∷ fs) h =
    let n = h.0 in let whole = n.whole in let guard = n.guard in let payload = n.payload in let dest = n.dest in
    let more = few_bits fs h.1 in
    let step = sum_by-cons (λ (x : BusFields). x.width) f fs in
    omega arith

-- so have those of a machine
pub layout_fits : (m : Machine) (l : Layout) → IsMachine m → l ≡ layout_of m → sum_by (λ f. f.width) l.buses < 2 ^ 31
layout_fits m l rules is =
    let few = few_bits l.buses (narrow_layout m l rules is) in
    let many = layout_count m l is in let limits = rules.limits in let most = limits.buses in
    omega arith
