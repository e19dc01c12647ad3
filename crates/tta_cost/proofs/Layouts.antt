-- The layout of a machine.
use Rattle.std.proofs.Common.{◌≡◌, map, length, sym, ap, ◌∙◌}
use Rattle.std.specs.List.{range_with_len}
use Rattle.std.proofs.lemmas.List.FromFn.{length-map-range_with_len}
use Rattle.tta_cost.specs.Cited.{Layout, Machine, fields_of, layout_of}

-- a layout has the fields of as many buses as its machine
pub layout_count : (m : Machine) (l : Layout) → l ≡ layout_of m → length l.buses ≡ length m.buses
layout_count m l is = ap (λ (x : Layout). length x.buses) is ∙ length-map-range_with_len (fields_of m) 0 (length m.buses)

-- the fields of a layout are those of as many buses as it has
pub layout_fields : (m : Machine) (l : Layout) → l ≡ layout_of m → l.buses ≡ map (fields_of m) (range_with_len 0 (length l.buses))
layout_fields m l is = ap (λ (x : Layout). x.buses) is ∙ ap (λ n. map (fields_of m) (range_with_len 0 n)) (sym (layout_count m l is))
