-- Lists of intervals and of homes, and how many of them pass a test.
use Rattle.std.proofs.Common.{◌≡◌, ℕ, zero, suc, ◌+◌, ◌≤◌, Bool, true, false, cond, List, [], ◌∷◌, ◌++◌, length, Some, refl, arith, ◌⊎◌, inl, inr}
use Rattle.std.specs.Prelude.{slice_get, slice_set, count_by}
use Rattle.tta_list.proofs.Lists.{slice_get-push, slice_get-longer, slice_get-back}
use Rattle.tta_alloc.specs.declared.interval.Interval.{Interval}
use Rattle.tta_alloc.proofs.TakenLemmas.{count_cons}

abbrev pub In : List Interval → Interval → Type 0
In xs a = (k : ℕ) × (slice_get xs k ≡ Some a)

pub in_front : (xs ys : List Interval) (a : Interval) → In xs a → In (xs ++ ys) a
in_front xs ys a i = (i.0, slice_get-longer xs ys i.0 a i.1)

pub in_last : (xs : List Interval) (a : Interval) → In (xs ++ a ∷ []) a
in_last xs a = (length xs + 0, slice_get-back xs (a ∷ []) 0)

pub in_cases : (xs : List Interval) (n a : Interval) → In (xs ++ n ∷ []) a → (In xs a) ⊎ (n ≡ a)
in_cases xs n a i = elim (slice_get-push xs n i.0 a i.1) [
  | inl e ↦ inl (i.0, e)
  | inr e ↦ inr e.1
]

-- ---- lists of homes

-- ---- counts

module _ (p : Interval → Bool) where
  pub count_set : (xs : List Interval) (i : ℕ) (v : Interval) → count_by p (slice_set xs i v) ≤ count_by p xs + cond (p v) 1 0
  count_set [] i v = omega arith
  count_set (x ∷ xs) zero v = let a = count_cons p v xs in let b = count_cons p x xs in omega arith
  count_set (x ∷ xs) (suc i) v =
      let a = count_cons p x (slice_set xs i v) in let b = count_cons p x xs in let c = count_set xs i v in omega arith

  pub count_all : (xs : List Interval) → ((k : ℕ) (x : Interval) → slice_get xs k ≡ Some x → p x ≡ true) → count_by p xs ≡ length xs
  count_all [] all = refl
  count_all (x ∷ xs) all =
      let c = count_all xs (λ k y e. all (suc k) y e) in
      yes (p x) _ _ _ (count_cons p x xs) (all 0 x refl) c
    where
      yes : (b : Bool) (m n l : ℕ) → m ≡ cond b 1 0 + n → b ≡ true → n ≡ l → m ≡ suc l
      yes true m n l e t s = omega arith
      yes false m n l e t s = absurd cc
