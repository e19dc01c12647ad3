-- A table with one item booked stands for one item more.
use Rattle.std.proofs.Common.{◌≡◌, ◌≢◌, inl, inr, ℕ, zero, suc, ◌<◌, Bool, true, false, List, [], ◌∷◌, ◌++◌, Some, refl, sym, ap, subst, ◌∙◌, arith, length, set, append-nil}
use Rattle.std.specs.Prelude.{slice_get, ◌==◌, nat_lt, if◌then◌else◌}
use Rattle.std.specs.List.{list_all}
use Rattle.std.proofs.lemmas.Bool.{cases_eq, eq-eqb, ne_eqb, lt-ltb}
use Rattle.std.proofs.lemmas.List.{length-set}
use Rattle.std.proofs.lemmas.List.Elements.{filter-append}
use Rattle.tta_list.proofs.Lists.{list_all_push}
use Rattle.tta_reserve.specs.Cited.{Machine, IsMachine, PlacedItem, fits_cycle, in_cycle}
use Rattle.tta_reserve.specs.declared.row.Row.{Row}
use Rattle.tta_reserve.specs.Booked.{IsRow, StandsFor}
use Rattle.tta_reserve.specs.Adding.{with_item}
use Rattle.tta_reserve.proofs.OneRow.{row_item}

-- ---- the items of a cycle, with one more

in_same : (c : ℕ) (xs : List PlacedItem) (x : PlacedItem) → x.cycle ≡ c → in_cycle c (xs ++ x ∷ []) ≡ in_cycle c xs ++ x ∷ []
in_same c xs x e = filter-append (λ (y : PlacedItem). y.cycle == c) xs (x ∷ []) ∙ by (x.cycle == c) (eq-eqb x.cycle c e) where
  by : (t : Bool) → t ≡ true → (in_cycle c xs ++ (if t then x ∷ [] else [])) ≡ in_cycle c xs ++ x ∷ []
  by true e = refl
  by false e = absurd cc

in_other : (c : ℕ) (xs : List PlacedItem) (x : PlacedItem) → x.cycle ≢ c → in_cycle c (xs ++ x ∷ []) ≡ in_cycle c xs
in_other c xs x e = filter-append (λ (y : PlacedItem). y.cycle == c) xs (x ∷ []) ∙ by (x.cycle == c) (ne_eqb x.cycle c e) where
  by : (t : Bool) → t ≡ false → (in_cycle c xs ++ (if t then x ∷ [] else [])) ≡ in_cycle c xs
  by true e = absurd cc
  by false e = append-nil (in_cycle c xs)

-- ---- a list of which one element is set

get_same : {A : Type 0} (l : List A) (k : ℕ) (v : A) → k < length l → slice_get (set l k v) k ≡ Some v
get_same [] k v lt = absurd (omega arith)
get_same (x ∷ l) zero v lt = refl
get_same (x ∷ l) (suc k) v lt = get_same l k v (omega arith)

get_other : {A : Type 0} (l : List A) (k j : ℕ) (v : A) → k ≢ j → slice_get (set l k v) j ≡ slice_get l j
get_other [] k j v ne = refl
get_other (x ∷ l) zero zero v ne = absurd (ne refl)
get_other (x ∷ l) zero (suc j) v ne = refl
get_other (x ∷ l) (suc k) zero v ne = refl
get_other (x ∷ l) (suc k) (suc j) v ne = get_other l k j v (λ e. ne (ap suc e))

-- ---- the table

pub booked : (m : Machine) → IsMachine m → (table new : List Row) (placed : List PlacedItem) (x : PlacedItem) (r : Row) → x.cycle < length table → slice_get table x.cycle ≡ Some r
    → new ≡ set table x.cycle (with_item m.templates x.item x.slot r) → StandsFor table m placed → fits_cycle m (in_cycle x.cycle placed ++ x ∷ []) ≡ true → StandsFor new m (placed ++ x ∷ [])
booked m rules table new placed x r lt is made s fits = subst (λ t. StandsFor t m (placed ++ x ∷ [])) (sym made) (record {
  rows = rows;
  fits = all;
  within = subst (λ n. list_all (λ (y : PlacedItem). nat_lt y.cycle n) (placed ++ x ∷ []) ≡ true) (sym (length-set table x.cycle row))
      (list_all_push (λ (y : PlacedItem). nat_lt y.cycle (length table)) placed x s.within (lt-ltb x.cycle (length table) lt));
}) where
  row : Row
  row = with_item m.templates x.item x.slot r

  all : (c : ℕ) → fits_cycle m (in_cycle c (placed ++ x ∷ [])) ≡ true
  all c = elim (cases_eq x.cycle c) [
    | inl same ↦ ap (fits_cycle m) (in_same c placed x same) ∙ subst (λ k. fits_cycle m (in_cycle k placed ++ x ∷ []) ≡ true) same fits
    | inr other ↦ ap (fits_cycle m) (in_other c placed x other) ∙ s.fits c
  ]

  rows : (c : ℕ) (q : Row) → slice_get (set table x.cycle (with_item m.templates x.item x.slot r)) c ≡ Some q → IsRow m (in_cycle c (placed ++ x ∷ [])) q
  rows c q e = elim (cases_eq x.cycle c) [
    | inl same ↦
        let got : Some (with_item m.templates x.item x.slot r) ≡ Some q
        = sym (get_same table x.cycle (with_item m.templates x.item x.slot r) lt) ∙ ap (slice_get (set table x.cycle (with_item m.templates x.item x.slot r))) same ∙ e in
        let eq : with_item m.templates x.item x.slot r ≡ q = cc in
        let more : IsRow m (in_cycle x.cycle placed ++ x ∷ []) (with_item m.templates x.item x.slot r) = row_item m rules (in_cycle x.cycle placed) x r (s.rows x.cycle r is) fits in
        subst (IsRow m (in_cycle c (placed ++ x ∷ []))) eq (subst (λ l. IsRow m l (with_item m.templates x.item x.slot r)) (sym (in_same c placed x same))
        (subst (λ k. IsRow m (in_cycle k placed ++ x ∷ []) (with_item m.templates x.item x.slot r)) same more))
    | inr other ↦ subst (λ l. IsRow m l q) (sym (in_other c placed x other)) (s.rows c q (sym (get_other table x.cycle c (with_item m.templates x.item x.slot r) other) ∙ e))
  ]
