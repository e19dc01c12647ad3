-- Lists with one element more, and lists by numbers of which one element changes.
use Rattle.std.proofs.Common.{◌≡◌, ℕ, zero, suc, ◌+◌, ◌<◌, Bool, true, false, List, [], ◌∷◌, ◌++◌, Option, Some, None, refl, sym, ap, ◌∙◌, arith, map}
use Rattle.std.specs.Prelude.{slice_get, not, ◌&&◌, ◌||◌}
use Rattle.std.specs.List.{list_all, list_any, range_with_len}
use Rattle.std.proofs.Math.Bool.{or-false, or-true}
use Rattle.std.proofs.lemmas.Bool.{and_parts, or_parts, not-true}
use Rattle.std.proofs.lemmas.List.Folds.{list_all-append, list_any-append}
use Rattle.tta_reserve.specs.Cited.{are_different, first_some, or_else}
use Rattle.tta_arch.proofs.FirstSome.{or_none}

-- ---- one more

-- the first answer along a list with one element more
pub first_push : {A B : Type 0} (f : A → Option B) (xs : List A) (x : A) → first_some f (xs ++ x ∷ []) ≡ or_else (first_some f xs) (f x)
first_push f [] x = or_none (f x)
first_push {A = A} {B = B} f (y ∷ xs) x = on (f y) (first_push f xs x) where
  on : (o : Option B) → first_some f (xs ++ x ∷ []) ≡ or_else (first_some f xs) (f x) → or_else o (first_some f (xs ++ x ∷ [])) ≡ or_else (or_else o (first_some f xs)) (f x)
  on None ih = ih
  on (Some z) ih = refl

-- a test of all, or of some, with one element more
pub all_last : {A : Type 0} (p : A → Bool) (xs : List A) (x : A) → list_all p (xs ++ x ∷ []) ≡ true → p x ≡ true
all_last p xs x h = (and_parts (p x) true (and_parts (list_all p xs) (p x && true) (sym (list_all-append p xs (x ∷ [])) ∙ h)).1).0

pub any_here : {A : Type 0} (p : A → Bool) (xs : List A) (x : A) → p x ≡ true → list_any p (xs ++ x ∷ []) ≡ true
any_here p xs x h = list_any-append p xs (x ∷ []) ∙ ap (λ b. list_any p xs || (b || false)) h ∙ or-true (list_any p xs)

pub any_not_here : {A : Type 0} (p : A → Bool) (xs : List A) (x : A) → p x ≡ false → list_any p (xs ++ x ∷ []) ≡ list_any p xs
any_not_here p xs x h = list_any-append p xs (x ∷ []) ∙ ap (λ b. list_any p xs || (b || false)) h ∙ or-false (list_any p xs)

any_last : {A : Type 0} (p : A → Bool) (xs : List A) (x : A) → list_any p (xs ++ x ∷ []) ≡ false → p x ≡ false
any_last p xs x h = (or_parts (p x) false (or_parts (list_any p xs) (p x || false) (sym (list_any-append p xs (x ∷ [])) ∙ h)).1).0

-- where all elements differ, none is like the last
pub different_last : {A : Type 0} (same : A → A → Bool) (xs : List A) (x : A) → are_different same (xs ++ x ∷ []) ≡ true → list_any (λ y. same y x) xs ≡ false
different_last same [] x d = refl
different_last same (y ∷ xs) x d =
    let two = and_parts (not (list_any (same y) (xs ++ x ∷ []))) (are_different same (xs ++ x ∷ [])) d in
    let first : list_any (same y) (xs ++ x ∷ []) ≡ false = not-true (list_any (same y) (xs ++ x ∷ [])) two.0 in
    rw (any_last (same y) xs x first, different_last same xs x two.1) refl

-- ---- by numbers

-- what stands at a number
pub get_alike : {A : Type 0} (f : ℕ → A) (a n c j : ℕ) → c < n → j ≡ a + c → slice_get (map f (range_with_len a n)) c ≡ Some (f j)
get_alike f a zero c j lt is = absurd (omega arith)
get_alike f a (suc n) zero j lt is = let e : a ≡ j = omega arith in ap (λ k. Some (f k)) e
get_alike f a (suc n) (suc c) j lt is = get_alike f (a + 1) n c j (omega arith) (omega arith)
