-- The sources and destinations of every machine's buses stand in order.
use Rattle.std.proofs.Common.{◌≡◌, ℕ, zero, suc, ◌+◌, ◌<◌, true, List, [], ◌∷◌, length, map, get_or, sym, ap, subst, arith}
use Rattle.std.specs.List.{range_with_len}
use Rattle.tta_image.specs.Cited.{Source, Dest, BusFields, Layout, Machine, IsMachine, same_source, same_dest, fields_of, layout_of}
use Rattle.tta_image.specs.Ranks.{source_rank, dest_rank, IsInOrder, AreInOrder}
use Rattle.tta_image.proofs.EndRanks.{sources_on-rise, dests_on-rise}
use Rattle.tta_image.proofs.EndsLemmas.{same_source_true, same_dest_true}

pub same_source_rank : (a b : Source) → same_source a b ≡ true → source_rank b ≡ source_rank a
same_source_rank a b h = ap source_rank (sym (same_source_true a b h))

pub same_dest_rank : (a b : Dest) → same_dest a b ≡ true → dest_rank b ≡ dest_rank a
same_dest_rank a b h = ap dest_rank (sym (same_dest_true a b h))

in_order_from : (m : Machine) (bus n : ℕ) → IsMachine m → AreInOrder (map (fields_of m) (range_with_len bus n))
in_order_from m bus zero rules = tt
in_order_from m bus (suc n) rules =
    (record { sources = sources_on-rise m bus rules; dests = dests_on-rise m bus rules }, in_order_from m (bus + 1) n rules)

pub layout_in_order : (m : Machine) (l : Layout) → IsMachine m → l ≡ layout_of m → AreInOrder l.buses
layout_in_order m l rules is = subst (λ (x : Layout). AreInOrder x.buses) (sym is) (in_order_from m 0 (length m.buses) rules)

-- the fields that an index gives
pub in_order_at : (fs : List BusFields) (bus : ℕ) (f : BusFields) → AreInOrder fs → bus < length fs → f ≡ get_or fs bus f → IsInOrder f
in_order_at [] bus f all h read = absurd (omega arith)
in_order_at (g ∷ fs) zero f all h read = subst IsInOrder (sym read) all.0
in_order_at (g ∷ fs) (suc bus) f all h read = in_order_at fs bus f all.1 (omega arith) read
