-- Lists by what stands at their places.
use Rattle.std.proofs.Common.{◌≡◌, ◌<◌, ℕ, zero, suc, Bool, List, [], ◌∷◌, Some, true, false, length, refl, sym, ap, ◌∙◌, arith}
use Rattle.std.specs.Prelude.{◌||◌, slice_get}
use Rattle.std.specs.List.{list_any}

-- an element of a list, by its place
pub record Stands {A : Type 0} (xs : List A) (k : ℕ) : Type 0 where
  pub item : A
  pub there : slice_get xs k ≡ Some item

pub stands_within : {A : Type 0} (xs : List A) (k : ℕ) → k < length xs → Stands xs k
stands_within [] k less = absurd (omega arith)
stands_within (x ∷ xs) zero less = record { item = x; there = refl }
stands_within (x ∷ xs) (suc k) less = let s = stands_within xs k (omega arith) in record { item = s.item; there = s.there }

-- two lists of one length are one where each element of one stands at its place in the other
pub same_items : {A : Type 0} (xs ys : List A) → length xs ≡ length ys → ((k : ℕ) (x : A) → slice_get xs k ≡ Some x → slice_get ys k ≡ Some x) → xs ≡ ys
same_items [] [] count each = refl
same_items [] (y ∷ ys) count each = absurd (omega arith)
same_items (x ∷ xs) [] count each = absurd (omega arith)
same_items (x ∷ xs) (y ∷ ys) count each =
    let first : x ≡ y = let e = each zero x refl in cc in
    let rest = same_items xs ys (omega arith) (λ k z there. each (suc k) z there) in
    ap (λ z. z ∷ xs) first ∙ ap (λ zs. y ∷ zs) rest

-- and where it holds of some, one stands at a place
pub record Passes {A : Type 0} (test : A → Bool) (xs : List A) : Type 0 where
  pub at : ℕ
  pub item : A
  pub there : slice_get xs at ≡ Some item
  pub holds : test item ≡ true

pub one_from_any : {A : Type 0} (test : A → Bool) (xs : List A) → list_any test xs ≡ true → Passes test xs
one_from_any test [] e = absurd cc
one_from_any {A} test (x ∷ xs) e = by (test x) refl (one_from_any test xs) where
  by : (b : Bool) → test x ≡ b → (list_any test xs ≡ true → Passes test xs) → Passes test (x ∷ xs)
  by true holds later = record { at = zero; item = x; there = refl; holds = holds }
  by false other later =
      let rest : list_any test xs ≡ true = sym (ap (λ b. b || list_any test xs) other) ∙ e in
      let w = later rest in
      record { at = suc w.at; item = w.item; there = w.there; holds = w.holds }
