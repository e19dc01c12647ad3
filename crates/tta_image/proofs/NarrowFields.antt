-- The fields of every machine are narrow.
use Rattle.std.proofs.Common.{◌≡◌, ℕ, zero, suc, ◌+◌, ◌^◌, ◌<◌, ◌≤◌, ◌==◌, List, [], ◌∷◌, length, map, slice_get, Option, Some, None, nat_le, refl, sym, ap, subst, inl, inr, arith}
use Rattle.std.specs.Option.{option_map_or}
use Rattle.std.specs.List.{range_with_len}
use Rattle.std.proofs.lemmas.Bool.{le-leb, lt-leb, cases_lt, and_parts, leb-true}
use Rattle.std.proofs.lemmas.List.Sums.{length-filter, count_by-le-length}
use Rattle.tta_list.proofs.Lists.{list_all_one}
use Rattle.tta_image.specs.Cited.{Bus, Guard, Layout, Machine, IsMachine, is_bus, width_from, width_for, short_width, guards_on, sources_on, dests_on, template_width, fields_of, layout_of}
use Rattle.tta_image.specs.Narrow.{IsNarrow, AreNarrow}
use Rattle.tta_image.specs.Ranks.{source_rank, dest_rank}
use Rattle.tta_image.proofs.Rising.{rising-length}
use Rattle.tta_image.proofs.EndRanks.{sources_on-rise, dests_on-rise}

width_from-most : (tries v codes width : ℕ) → v ≤ width → width ≤ v + tries → codes ≤ 2 ^ width → width_from tries v codes ≤ width
width_from-most zero v codes width low high fits = omega arith
width_from-most (suc tries) v codes width low high fits = elim (cases_lt (2 ^ v) codes) [
  | inl more ↦ elim (cases_lt v width) [
    | inl lt ↦ rw (lt-leb codes (2 ^ v) more) (width_from-most tries (v + 1) codes width (omega arith) (omega arith) fits)
    | inr ge ↦ let e : v ≡ width = omega arith in let p : 2 ^ v ≡ 2 ^ width = ap (λ (n : ℕ). 2 ^ n) e in absurd (omega arith)
  ]
  | inr enough ↦ rw (le-leb codes (2 ^ v) enough) low
]

width_from-few : (tries v codes width : ℕ) → v + tries ≤ width → width_from tries v codes ≤ width
width_from-few zero v codes width h = omega arith
width_from-few (suc tries) v codes width h = elim (cases_lt (2 ^ v) codes) [
  | inl more ↦ rw (lt-leb codes (2 ^ v) more) (width_from-few tries (v + 1) codes width (omega arith))
  | inr enough ↦ rw (le-leb codes (2 ^ v) enough) (omega arith)
]

-- so many bits are enough for no more codes than they tell apart
pub width_for-most : (codes width : ℕ) → codes ≤ 2 ^ width → width_for codes ≤ width
unfolding width_for
width_for-most codes width fits = elim (cases_lt codes width) [
  | inl few ↦ width_from-few codes 0 codes width (omega arith)
  | inr many ↦ width_from-most codes 0 codes width (omega arith) (omega arith) fits
]

few_guards : (m : Machine) (bus : ℕ) → IsMachine m → length (guards_on m bus) ≤ 64
few_guards m bus rules =
    let limits = rules.limits in let few = limits.guards in
    let e = length-filter (λ (g : Guard). g.bus == bus) m.guards in
    let le = count_by-le-length (λ (g : Guard). g.bus == bus) m.guards in
    omega arith

inside : (xs : List Bus) (k : ℕ) → k < length xs → slice_get xs k ≡ None → ⊥
inside [] k lt e = absurd (omega arith)
inside (x ∷ xs) zero lt e = cc
inside (x ∷ xs) (suc k) lt e = inside xs k (omega arith) e

short_range : (m : Machine) (bus : ℕ) → IsMachine m → bus < length m.buses → (0 < short_width m bus) × (short_width m bus ≤ 32)
short_range m bus rules h = by (slice_get m.buses bus) refl where
  by : (o : Option Bus) → slice_get m.buses bus ≡ o → (0 < option_map_or (λ b. b.short) o 0) × (option_map_or (λ b. b.short) o 0 ≤ 32)
  by None at = absurd (inside m.buses bus h at)
  by (Some b) at =
      let range = and_parts (nat_le 1 b.short) (nat_le b.short 32) (list_all_one is_bus m.buses bus b rules.buses at) in
      let least = leb-true 1 b.short range.0 in let most = leb-true b.short 32 range.1 in
      (omega arith, most)

pub narrow : (m : Machine) (bus : ℕ) → IsMachine m → bus < length m.buses → IsNarrow (fields_of m bus)
narrow m bus rules h =
    let guards = few_guards m bus rules in
    let sources = rising-length source_rank 0 16385 (sources_on m bus) (sources_on-rise m bus rules) in
    let dests = rising-length dest_rank 0 16387 (dests_on m bus) (dests_on-rise m bus rules) in
    let gw = width_for-most (1 + length (guards_on m bus)) 7 (omega arith) in
    let sw = width_for-most (length (sources_on m bus)) 15 (omega arith) in
    let dw = width_for-most (1 + length (dests_on m bus)) 15 (omega arith) in
    let short = short_range m bus rules h in
    let some = short.0 in let most = short.1 in
    record { guard = gw; some_short = some; short = most; payload = omega arith; dest = dw; whole = refl }

narrow_from : (m : Machine) (bus n : ℕ) → IsMachine m → bus + n ≤ length m.buses → AreNarrow (map (fields_of m) (range_with_len bus n))
narrow_from m bus zero rules h = tt
narrow_from m bus (suc n) rules h = (narrow m bus rules (omega arith), narrow_from m (bus + 1) n rules (omega arith))

pub narrow_layout : (m : Machine) (l : Layout) → IsMachine m → l ≡ layout_of m → AreNarrow l.buses
narrow_layout m l rules is = subst (λ (x : Layout). AreNarrow x.buses) (sym is) (narrow_from m 0 (length m.buses) rules (omega arith))

pub narrow_template : (m : Machine) → IsMachine m → template_width m ≤ 4
narrow_template m rules =
    let limits = rules.limits in let few = limits.templates in
    width_for-most (1 + length m.templates) 4 (omega arith)
