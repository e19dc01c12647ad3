-- Tables that serve one list after another.
use Rattle.std.proofs.Common.{◌≡◌, ℕ, suc, ◌+◌, true, false, List, [], ◌∷◌, length, replicate, refl, sym, ap, subst, arith, ◌∙◌, length-set}
use Rattle.std.specs.Prelude.{◌==◌, if◌then◌else◌, map, nat_le, slice_set}
use Rattle.std.specs.List.{list_all}
use Rattle.std.proofs.lemmas.Bool.{and_parts}
use Rattle.std.proofs.lemmas.Bool.Decides.{nat_tests}
use Rattle.std.proofs.lemmas.List.{length-map}
use Rattle.tta_reorder.specs.declared.rows.Entry.{Entry}
use Rattle.tta_reorder.specs.Rows.{none_changed, last_in, AreStamps}
use Rattle.tta_optim.proofs.Stamps.{map_set, past_set, past_next}

-- ---- what the entries say

-- where all stamps are of earlier lists, no entry says anything
none_last : (list : ℕ) (entries : List Entry) → list_all (λ s. nat_le s list) (map (λ (e : Entry). e.list) entries) ≡ true
    → map (last_in (list + 1)) entries ≡ replicate (length entries) 0
none_last list [] all = refl
none_last list (e ∷ es) all =
    let parts = and_parts (nat_le e.list list) (list_all (λ s. nat_le s list) (map (λ (e : Entry). e.list) es)) all in
    let other : (e.list == list + 1) ≡ false = grind (arith, nat_tests, parts.0) in
    rw (other, none_last list es parts.1) refl

-- ---- the stamps

pub stamps_next : (list : ℕ) (stamps : List ℕ) → AreStamps list stamps → AreStamps (list + 1) stamps
stamps_next list stamps t = record { some = omega arith; size = t.size; past = past_next list stamps t.past }

-- ---- the table

pub table_begin : (list : ℕ) (entries : List Entry) → AreStamps list (map (λ (e : Entry). e.list) entries) → map (last_in (list + 1)) entries ≡ none_changed
table_begin list entries t =
    let long : length entries ≡ 1668 = sym (length-map entries (λ (e : Entry). e.list)) ∙ t.size in
    none_last list entries t.past ∙ ap (λ n. replicate n 0) long

pub table_put : (list : ℕ) (entries : List Entry) (k n : ℕ)
    → map (last_in list) (slice_set entries k (record { list = list; last = n })) ≡ slice_set (map (last_in list) entries) k n
table_put list entries k n =
    let same : (list == list) ≡ true = grind (arith, nat_tests) in
    map_set (last_in list) entries k (record { list = list; last = n }) ∙ ap (λ b. slice_set (map (last_in list) entries) k (if b then n else 0)) same

pub table_put_stamps : (list : ℕ) (entries : List Entry) (k n : ℕ) → AreStamps list (map (λ (e : Entry). e.list) entries)
    → AreStamps list (map (λ (e : Entry). e.list) (slice_set entries k (record { list = list; last = n })))
table_put_stamps list entries k n t =
    subst (AreStamps list) (sym (map_set (λ (e : Entry). e.list) entries k (record { list = list; last = n }))) (record {
      some = t.some;
      size = length-set (map (λ (e : Entry). e.list) entries) k list ∙ t.size;
      past = past_set list (map (λ (e : Entry). e.list) entries) k list (omega arith) t.past;
    })

-- a table whose entries are cleared
all_last : (entries : List Entry) → map (last_in 1) (replicate (length entries) (record { list = 0; last = 0 })) ≡ replicate (length entries) 0
all_last [] = refl
all_last (e ∷ es) = ap (λ l. 0 ∷ l) (all_last es)

all_past : (entries : List Entry) → list_all (λ s. nat_le s 1) (map (λ (e : Entry). e.list) (replicate (length entries) (record { list = 0; last = 0 }))) ≡ true
all_past [] = refl
all_past (e ∷ es) = all_past es

all_long : (entries : List Entry) → length (map (λ (e : Entry). e.list) (replicate (length entries) (record { list = 0; last = 0 }))) ≡ length entries
all_long [] = refl
all_long (e ∷ es) = ap (λ n. suc n) (all_long es)

pub table_cleared : (list n : ℕ) (entries cleared : List Entry) → n ≡ length entries → cleared ≡ replicate n (record { list = 0; last = 0 }) → AreStamps list (map (λ (e : Entry). e.list) entries)
    → map (last_in 1) cleared ≡ none_changed
table_cleared list n entries cleared is e t =
    let long : length entries ≡ 1668 = sym (length-map entries (λ (e : Entry). e.list)) ∙ t.size in
    ap (map (last_in 1)) (e ∙ ap (λ k. replicate k (record { list = 0; last = 0 })) is) ∙ all_last entries ∙ ap (λ n. replicate n 0) long

pub stamps_cleared : (list n : ℕ) (entries cleared : List Entry) → n ≡ length entries → cleared ≡ replicate n (record { list = 0; last = 0 }) → AreStamps list (map (λ (e : Entry). e.list) entries)
    → AreStamps 1 (map (λ (e : Entry). e.list) cleared)
stamps_cleared list n entries cleared is e t = subst (λ (l : List Entry). AreStamps 1 (map (λ (e : Entry). e.list) l)) (sym (e ∙ ap (λ k. replicate k (record { list = 0; last = 0 })) is)) (record {
  some = omega arith;
  size = all_long entries ∙ sym (length-map entries (λ (e : Entry). e.list)) ∙ t.size;
  past = all_past entries;
})
