-- The buses of a cycle, of which one gets a move.
use Rattle.std.proofs.Common.{◌≡◌, inl, inr, ℕ, zero, suc, ◌+◌, ◌<◌, ◌≤◌, Bool, true, false, List, [], ◌∷◌, Option, Some, None, refl, subst, ◌∙◌, arith, length, map, set, cond}
use Rattle.std.specs.Prelude.{slice_get, count_by, not, ◌&&◌}
use Rattle.std.specs.List.{list_all, list_any, range_with_len}
use Rattle.std.proofs.lemmas.List.Sums.{sum_by-cons, count_by-le-length}
use Rattle.std.proofs.lemmas.Bool.{and_parts, and_from, or_parts, or_from, not-true, cases_lt}
use Rattle.tta_reserve.specs.Cited.{Dest, Ends, Slots, ends_of, same_place, are_apart, all_slots, all_below}

-- ---- tests

-- a test of each bus, where one gets a move that passes
pub slots_set : (test : ℕ → Option Ends → Bool) (slots : Slots) (a b j : ℕ) (v : Ends) → j ≡ a + b → all_slots test a slots ≡ true → test j (Some v) ≡ true → all_slots test a (set slots b (Some v)) ≡ true
slots_set test [] a b j v is all h = refl
slots_set test (o ∷ slots) a zero j v is all h =
    let two = and_parts (test a o) (all_slots test (a + 1) slots) all in
    let at : j ≡ a = omega arith in
    and_from (test a (Some v)) (all_slots test (a + 1) slots) (subst (λ k. test k (Some v) ≡ true) at h) two.1
slots_set test (o ∷ slots) a (suc b) j v is all h =
    let two = and_parts (test a o) (all_slots test (a + 1) slots) all in
    and_from (test a o) (all_slots test (a + 1) (set slots b (Some v))) two.0 (slots_set test slots (a + 1) b j v (omega arith) two.1 h)

-- the test of one bus
pub slot_test : (test : ℕ → Option Ends → Bool) (slots : Slots) (a b j : ℕ) (o : Option Ends) → j ≡ a + b → all_slots test a slots ≡ true → slice_get slots b ≡ Some o → test j o ≡ true
slot_test test [] a b j o is all e = absurd cc
slot_test test (q ∷ slots) a zero j o is all e =
    let two = and_parts (test a q) (all_slots test (a + 1) slots) all in
    let at : a ≡ j = omega arith in
    let same : q ≡ o = cc in
    subst (λ k. test k o ≡ true) at (subst (λ u. test a u ≡ true) same two.0)
slot_test test (q ∷ slots) a (suc b) j o is all e =
    let two = and_parts (test a q) (all_slots test (a + 1) slots) all in
    slot_test test slots (a + 1) b j o (omega arith) two.1 e

-- a test of each bus, by what each has
pub slots_from : (test : ℕ → Option Ends → Bool) (f : ℕ → Option Ends) → ((k : ℕ) → test k (f k) ≡ true) → (a n : ℕ) → all_slots test a (map f (range_with_len a n)) ≡ true
slots_from test f each a zero = refl
slots_from test f each a (suc n) = and_from (test a (f a)) (all_slots test (a + 1) (map f (range_with_len (a + 1) n))) (each a) (slots_from test f each (a + 1) n)

-- a test of each number below another
pub below_map : (p q : ℕ → Bool) (n : ℕ) → ((k : ℕ) → p k ≡ true → q k ≡ true) → all_below p n ≡ true → all_below q n ≡ true
below_map p q zero h all = refl
below_map p q (suc n) h all = let two = and_parts (p n) (all_below p n) all in and_from (q n) (all_below q n) (h n two.0) (below_map p q n h two.1)

pub below_one : (p : ℕ → Bool) (n k : ℕ) → all_below p n ≡ true → k < n → p k ≡ true
below_one p zero k all lt = absurd (omega arith)
below_one p (suc n) k all lt = let two = and_parts (p n) (all_below p n) all in elim (cases_lt k n) [
  | inl less ↦ below_one p n k two.1 less
  | inr more ↦ let same : n ≡ k = omega arith in subst (λ j. p j ≡ true) same two.0
]

-- ---- counts

pub count_set : (p : Ends → Bool) (slots : Slots) (b : ℕ) (v : Ends) → slice_get slots b ≡ Some None → count_by p (ends_of (set slots b (Some v))) ≡ count_by p (ends_of slots) + cond (p v) 1 0
count_set p [] b v e = absurd cc
count_set p (o ∷ slots) zero v e =
    let none : o ≡ None = cc in
    rw none (sum_by-cons (λ (w : Ends). cond (p w) 1 0) v (ends_of slots) ∙ omega arith)
count_set p (None ∷ slots) (suc b) v e = count_set p slots b v e
count_set p (Some w ∷ slots) (suc b) v e =
    let ih = count_set p slots b v e in
    let x = sum_by-cons (λ (u : Ends). cond (p u) 1 0) w (ends_of (set slots b (Some v))) in
    let y = sum_by-cons (λ (u : Ends). cond (p u) 1 0) w (ends_of slots) in
    omega arith

-- a bus has one move at most
few_ends : (f : ℕ → Option Ends) (a n : ℕ) → length (ends_of (map f (range_with_len a n))) ≤ n
few_ends f a zero = omega arith
few_ends f a (suc n) = on (f a) (few_ends f (a + 1) n) where
  on : (o : Option Ends) → length (ends_of (map f (range_with_len (a + 1) n))) ≤ n → length (ends_of (o ∷ map f (range_with_len (a + 1) n))) ≤ suc n
  on None ih = omega arith
  on (Some w) ih = omega arith

pub count_most : (p : Ends → Bool) (f : ℕ → Option Ends) (a n : ℕ) → count_by p (ends_of (map f (range_with_len a n))) ≤ n
count_most p f a n = omega (arith, count_by-le-length p (ends_of (map f (range_with_len a n))), few_ends f a n)

-- ---- places

-- whether a move goes elsewhere, asked both ways
abbrev pub is_elsewhere : Dest → Ends → Bool
is_elsewhere d w = not (same_place w.dst d) && not (same_place d w.dst)

none_here : (d : Dest) (ws : List Ends) → list_all (is_elsewhere d) ws ≡ true → list_any (λ (w : Ends). same_place d w.dst) ws ≡ false
none_here d [] all = refl
none_here d (w ∷ ws) all =
    let two = and_parts (is_elsewhere d w) (list_all (is_elsewhere d) ws) all in
    let p = and_parts (not (same_place w.dst d)) (not (same_place d w.dst)) two.0 in
    or_from (same_place d w.dst) (list_any (λ (u : Ends). same_place d u.dst) ws) (not-true (same_place d w.dst) p.1) (none_here d ws two.1)

any_set : (w : Ends) (slots : Slots) (b : ℕ) (v : Ends) → slice_get slots b ≡ Some None → same_place w.dst v.dst ≡ false → list_any (λ (u : Ends). same_place w.dst u.dst) (ends_of slots) ≡ false
    → list_any (λ (u : Ends). same_place w.dst u.dst) (ends_of (set slots b (Some v))) ≡ false
any_set w [] b v e n h = absurd cc
any_set w (o ∷ slots) zero v e n h = let none : o ≡ None = cc in let rest : list_any (λ (u : Ends). same_place w.dst u.dst) (ends_of slots) ≡ false = rw none at h in rw (n, rest) refl
any_set w (None ∷ slots) (suc b) v e n h = any_set w slots b v e n h
any_set w (Some u ∷ slots) (suc b) v e n h =
    let two = or_parts (same_place w.dst u.dst) (list_any (λ (x : Ends). same_place w.dst x.dst) (ends_of slots)) h in
    or_from (same_place w.dst u.dst) (list_any (λ (x : Ends). same_place w.dst x.dst) (ends_of (set slots b (Some v)))) two.0 (any_set w slots b v e n two.1)

-- the moves stay apart with one more that goes elsewhere
pub apart_set : (slots : Slots) (b : ℕ) (v : Ends) → slice_get slots b ≡ Some None → are_apart (ends_of slots) ≡ true → list_all (is_elsewhere v.dst) (ends_of slots) ≡ true → are_apart (ends_of (set slots b (Some v))) ≡ true
apart_set [] b v e h all = absurd cc
apart_set (o ∷ slots) zero v e h all =
    let none : o ≡ None = cc in
    let rest : are_apart (ends_of slots) ≡ true = rw none at h in
    let each : list_all (is_elsewhere v.dst) (ends_of slots) ≡ true = rw none at all in
    rw (none_here v.dst (ends_of slots) each, rest) refl
apart_set (None ∷ slots) (suc b) v e h all = apart_set slots b v e h all
apart_set (Some w ∷ slots) (suc b) v e h all =
    let two = and_parts (is_elsewhere v.dst w) (list_all (is_elsewhere v.dst) (ends_of slots)) all in
    let p = and_parts (not (same_place w.dst v.dst)) (not (same_place v.dst w.dst)) two.0 in
    let a = and_parts (not (list_any (λ (u : Ends). same_place w.dst u.dst) (ends_of slots))) (are_apart (ends_of slots)) h in
    let none = any_set w slots b v e (not-true (same_place w.dst v.dst) p.0) (not-true (list_any (λ (u : Ends). same_place w.dst u.dst) (ends_of slots)) a.0) in
    rw (none, apart_set slots b v e a.1 two.1) refl
