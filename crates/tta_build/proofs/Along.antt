-- A relation between two lists, element by element, and one element more.
use Rattle.std.proofs.Common.{◌≡◌, ℕ, zero, suc, List, [], ◌∷◌, ◌++◌, Some, subst, length, slice_get}

-- so far a relation holds of the elements of two lists at the same places
abbrev pub Along : {A B : Type 0} → (A → B → Type 0) → List A → List B → Type 0
Along {A} {B} R xs ys = (k : ℕ) (x : A) (y : B) → slice_get xs k ≡ Some x → slice_get ys k ≡ Some y → R x y

-- the same with one element more of the second list
pub along_more : {A B : Type 0} (R : A → B → Type 0) (xs : List A) (ys : List B) (x : A) (y : B) → Along R xs ys → slice_get xs (length ys) ≡ Some x
    → R x y → Along R xs (ys ++ y ∷ [])
along_more R xs [] x y so here r zero a b at is =
    let same : x ≡ a = cc in
    let this : y ≡ b = cc in
    subst (λ (z : _). R a z) this (subst (λ (z : _). R z y) same r)
along_more R xs [] x y so here r (suc k) a b at is = absurd cc
along_more R [] (v ∷ ys) x y so here r k a b at is = absurd cc
along_more R (u ∷ xs) (v ∷ ys) x y so here r zero a b at is = so zero a b at is
along_more R (u ∷ xs) (v ∷ ys) x y so here r (suc k) a b at is =
    along_more R xs ys x y (λ j d s e f. so (suc j) d s e f) here r k a b at is
