-- The first answer along a list.
use Rattle.std.proofs.Common.{◌≡◌, ◌+◌, ℕ, suc, List, [], ◌∷◌, Option, Some, None, refl, sym, ap, arith, ◌∙◌, slice_get, add-zero}
use Rattle.tta_select.specs.Cited.{or_else, first_by}

pub record Found {A B : Type 0} (f : ℕ → A → Option B) (k : ℕ) (xs : List A) (b : B) : Type 0 where
  pub at : ℕ
  pub item : A
  pub there : slice_get xs at ≡ Some item
  pub answers : f (k + at) item ≡ Some b

pub first_found : {A B : Type 0} (f : ℕ → A → Option B) (k : ℕ) (xs : List A) (b : B) → first_by f k xs ≡ Some b → Found f k xs b
first_found f k [] b e = absurd cc
first_found f k (x ∷ xs) b e = on (f k x) refl e (first_found f (k + 1) xs b) where
  on : (o : Option _) → f k x ≡ o → or_else o (first_by f (k + 1) xs) ≡ Some b → (first_by f (k + 1) xs ≡ Some b → Found f (k + 1) xs b) → Found f k (x ∷ xs) b
  on (Some y) is e ih = record { at = 0; item = x; there = refl; answers = ap (λ i. f i x) (add-zero k) ∙ is ∙ e }
  on None is e ih =
      let a = ih e in
      let same : k + suc a.at ≡ k + 1 + a.at = omega arith in
      record { at = suc a.at; item = a.item; there = a.there; answers = ap (λ i. f i a.item) same ∙ a.answers }

-- the same along a whole list
pub record First {A B : Type 0} (f : ℕ → A → Option B) (xs : List A) (b : B) : Type 0 where
  pub at : ℕ
  pub item : A
  pub there : slice_get xs at ≡ Some item
  pub answers : f at item ≡ Some b

pub first_there : {A B : Type 0} (f : ℕ → A → Option B) (xs : List A) (b : B) → first_by f 0 xs ≡ Some b → First f xs b
first_there f xs b e =
    let a = first_found f 0 xs b e in
    let same : 0 + a.at ≡ a.at = omega arith in
    record { at = a.at; item = a.item; there = a.there; answers = ap (λ i. f i a.item) (sym same) ∙ a.answers }
