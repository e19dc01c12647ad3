-- A table without cycles stands for no items, and one with more cycles for the same items.
use Rattle.std.proofs.Common.{◌≡◌, inl, inr, ℕ, zero, suc, ◌+◌, ◌-◌, ◌≤◌, Bool, true, false, List, [], ◌∷◌, ◌++◌, Some, None, refl, sym, ap, subst, ◌∙◌, arith, length, map, take, replicate, length-append}
use Rattle.std.specs.Prelude.{slice_get, count_by, not, ◌==◌, nat_lt}
use Rattle.std.specs.List.{list_all, range_with_len}
use Rattle.std.proofs.lemmas.List.{take_all}
use Rattle.std.proofs.lemmas.Bool.{and_parts, cases_lt}
use Rattle.std.proofs.lemmas.Bool.Decides.{nat_tests}
use Rattle.tta_list.proofs.Lists.{slice_get-front, slice_get-back, list_all_weaker, zeros}
use Rattle.tta_reserve.specs.Cited.{Machine, Ends, ends_of, reads_file, reads_imm, writes_file, PlacedItem, slots_of, in_cycle}
use Rattle.tta_arch.proofs.SetLemmas.{has_bit-empty}
use Rattle.tta_moves.proofs.FirstFitLaws.{nothing_fits}
use Rattle.tta_reserve.specs.declared.row.Row.{Row}
use Rattle.tta_reserve.specs.Booked.{empty_row, IsRow, StandsFor}

-- ---- no cycles

pub nothing_booked : (m : Machine) (table : List Row) → table ≡ [] → StandsFor table m []
nothing_booked m table none = subst (λ t. StandsFor t m []) (sym none) (record {
  rows = λ cycle r e. absurd cc;
  fits = λ cycle. nothing_fits m;
  within = refl;
})

-- ---- a row of no items

pub no_ends : (a n : ℕ) → ends_of (map (λ (bus : ℕ). None) (range_with_len a n)) ≡ []
no_ends a zero = refl
no_ends a (suc n) = no_ends (a + 1) n

no_count : (m : Machine) (p : Ends → Bool) → count_by p (ends_of (slots_of m [])) ≡ 0
no_count m p = ap (count_by p) (no_ends 0 (length m.buses))

row_of_none : (m : Machine) → IsRow m [] empty_row
row_of_none m = record {
  moves = has_bit-empty;
  taken = refl;
  template = refl;
  imms = λ unit. has_bit-empty unit ∙ ap (λ n. not (n == 0)) (sym (no_count m (λ (w : Ends). reads_imm unit w.src)));
  reads = λ file. zeros 8 file ∙ sym (no_count m (λ (w : Ends). reads_file file w.src));
  writes = λ file. zeros 8 file ∙ sym (no_count m (λ (w : Ends). writes_file file w.dst));
  eight_reads = refl;
  eight_writes = refl;
}

-- ---- more cycles

none_there : (n c : ℕ) (ps : List PlacedItem) → n ≤ c → list_all (λ x. nat_lt x.cycle n) ps ≡ true → in_cycle c ps ≡ []
none_there n c [] le h = refl
none_there n c (p ∷ ps) le h =
    let two = and_parts (nat_lt p.cycle n) (list_all (λ (x : PlacedItem). nat_lt x.cycle n) ps) h in
    let no : (p.cycle == c) ≡ false = let t = two.0 in grind (arith, nat_tests) in
    rw no (none_there n c ps le two.1)

copied : {A : Type 0} (n k : ℕ) (a b : A) → slice_get (replicate n a) k ≡ Some b → a ≡ b
copied zero k a b e = absurd cc
copied (suc n) zero a b e = cc
copied (suc n) (suc k) a b e = copied n k a b e

longer_by : (m : Machine) (table new : List Row) (placed : List PlacedItem) (n : ℕ) → length table ≤ n → new ≡ take n table ++ replicate (n - length table) empty_row → StandsFor table m placed → StandsFor new m placed
longer_by m table new placed n le is s = subst (λ t. StandsFor t m placed) (sym (is ∙ ap (λ l. l ++ replicate (n - length table) empty_row) (take_all n table le))) (record {
  rows = rows;
  fits = s.fits;
  within = list_all_weaker (λ (x : PlacedItem). nat_lt x.cycle (length table)) _ placed weaker s.within;
}) where
  more : List Row
  more = replicate (n - length table) empty_row

  weaker : (x : PlacedItem) → nat_lt x.cycle (length table) ≡ true → nat_lt x.cycle (length (table ++ replicate (n - length table) empty_row)) ≡ true
  weaker x h = let e = length-append table (replicate (n - length table) empty_row) in grind (arith, nat_tests)

  rows : (cycle : ℕ) (r : Row) → slice_get (table ++ replicate (n - length table) empty_row) cycle ≡ Some r → IsRow m (in_cycle cycle placed) r
  rows cycle r e = elim (cases_lt cycle (length table)) [
    | inl old ↦ s.rows cycle r (sym (slice_get-front table (replicate (n - length table) empty_row) cycle old) ∙ e)
    | inr past ↦
        let at : length table + (cycle - length table) ≡ cycle = omega arith in
        let back : slice_get (replicate (n - length table) empty_row) (cycle - length table) ≡ Some r
        = sym (slice_get-back table (replicate (n - length table) empty_row) (cycle - length table)) ∙ ap (slice_get (table ++ replicate (n - length table) empty_row)) at ∙ e in
        let same : empty_row ≡ r = copied (n - length table) (cycle - length table) empty_row r back in
        let none : in_cycle cycle placed ≡ [] = none_there (length table) cycle placed past s.within in
        subst (IsRow m (in_cycle cycle placed)) same (subst (λ l. IsRow m l empty_row) (sym none) (row_of_none m))
  ]

pub longer : (m : Machine) (table new : List Row) (placed : List PlacedItem) (n k : ℕ) (v : Row) → length table ≤ n → new ≡ take n table ++ replicate k v → v ≡ empty_row → k ≡ n - length table
    → StandsFor table m placed → StandsFor new m placed
longer m table new placed n k v le is empty count s =
    longer_by m table new placed n le (is ∙ ap (λ r. take n table ++ replicate k r) empty ∙ ap (λ j. take n table ++ replicate j empty_row) count) s
