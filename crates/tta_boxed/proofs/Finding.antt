-- Lists: what is found in them, and what is in them.
use Rattle.std.proofs.Common.{◌≡◌, ℕ, zero, suc, ◌+◌, Bool, true, false, ◌||◌, List, [], ◌∷◌, ◌++◌, slice_get, Some, None, refl, sym, ap, ◌∙◌, subst, arith}
use Rattle.std.specs.Prelude.{if◌then◌else◌}
use Rattle.std.specs.List.{find, list_any, flat_map, enumerate_from, AllByRecursion}
use Rattle.std.proofs.lemmas.Bool.{or_left, or_right, or_from}
use Rattle.std.proofs.lemmas.Option.{none-some, same_Some}
use Rattle.tta_image.proofs.Places.{any_left, any_right}

-- nothing is found where nothing passes
pub not_found : {A : Type 0} (p : A → Bool) (xs : List A) → AllByRecursion (λ x. p x ≡ false) xs → find p xs ≡ None
not_found p [] all = refl
not_found p (x ∷ xs) all = ap (λ b. if b then Some x else find p xs) all.0 ∙ not_found p xs all.1

-- and what is found is past what does not pass
pub found_past : {A : Type 0} (p : A → Bool) (xs ys : List A) → AllByRecursion (λ x. p x ≡ false) xs → find p (xs ++ ys) ≡ find p ys
found_past p [] ys all = refl
found_past p (x ∷ xs) ys all = ap (λ b. if b then Some x else find p (xs ++ ys)) all.0 ∙ found_past p xs ys all.1

-- what is found passes, and is one of all
pub found_is : {A : Type 0} (P : A → Type 0) (p : A → Bool) (xs : List A) (y : A) → AllByRecursion P xs → find p xs ≡ Some y
    → P y × (p y ≡ true)
found_is P p [] y all is = absurd (none-some y is)
found_is P p (x ∷ xs) y all is = by (p x) refl is (found_is P p xs y all.1) where
  by : (b : Bool) → p x ≡ b → (if b then Some x else find p xs) ≡ Some y → (find p xs ≡ Some y → P y × (p y ≡ true)) → P y × (p y ≡ true)
  by true here is rest = let e = same_Some x y is in (subst P e all.0, ap p (sym e) ∙ here)
  by false here is rest = rest is

-- where nothing is found, nothing passes
pub none_found : {A : Type 0} (p : A → Bool) (xs : List A) → find p xs ≡ None → list_any p xs ≡ false
none_found p [] is = refl
none_found p (x ∷ xs) is = by (p x) is (none_found p xs) where
  by : (b : Bool) → (if b then Some x else find p xs) ≡ None → (find p xs ≡ None → list_any p xs ≡ false) → (b || list_any p xs) ≡ false
  by true is rest = absurd (none-some x (sym is))
  by false is rest = rest is

-- two tests that agree find one
pub find_alike : {A : Type 0} (p q : A → Bool) (xs : List A) → ((x : A) → p x ≡ q x) → find p xs ≡ find q xs
find_alike p q [] same = refl
find_alike p q (x ∷ xs) same =
    ap (λ b. if b then Some x else find p xs) (same x) ∙ ap (λ o. if q x then Some x else o) (find_alike p q xs same)

-- nothing is there where nothing passes
pub none_there : {A : Type 0} (p : A → Bool) (xs : List A) → AllByRecursion (λ x. p x ≡ false) xs → list_any p xs ≡ false
none_there p [] all = refl
none_there p (x ∷ xs) all = or_from (p x) (list_any p xs) all.0 (none_there p xs all.1)

-- what is in one of two lists is in the first, where it is not in the second
pub first_alone : {A : Type 0} (p : A → Bool) (xs ys : List A) → list_any p ys ≡ false → list_any p (xs ++ ys) ≡ list_any p xs
first_alone p [] ys none = none
first_alone p (x ∷ xs) ys none = ap (λ b. p x || b) (first_alone p xs ys none)

-- what one element of a list makes
pub any_flat : {A B : Type 0} (q : B → Bool) (f : A → List B) (xs : List A) → list_any (λ x. list_any q (f x)) xs ≡ true
    → list_any q (flat_map f xs) ≡ true
any_flat q f [] any = any
any_flat q f (x ∷ xs) any = by (list_any q (f x)) refl any (any_flat q f xs) where
  by : (b : Bool) → list_any q (f x) ≡ b → (b || list_any (λ x. list_any q (f x)) xs) ≡ true
      → (list_any (λ x. list_any q (f x)) xs ≡ true → list_any q (flat_map f xs) ≡ true) → list_any q (f x ++ flat_map f xs) ≡ true
  by true here any rest = any_left q (f x) (flat_map f xs) here
  by false here any rest = any_right q (f x) (flat_map f xs) (rest any)

-- an element with its number
pub any_enumerated : {A : Type 0} (q : ℕ × A → Bool) (xs : List A) (a k j : ℕ) (x : A) → a + k ≡ j → slice_get xs k ≡ Some x
    → q (j, x) ≡ true → list_any q (enumerate_from a xs) ≡ true
any_enumerated q [] a k j x e at is = absurd (none-some x at)
any_enumerated q (y ∷ ys) a zero j x e at is =
    let first : a ≡ j = omega (arith, e) in
    or_left (q (a, y)) (list_any q (enumerate_from (a + 1) ys)) (ap (λ i. q (i, y)) first ∙ ap (λ z. q (j, z)) (same_Some y x at) ∙ is)
any_enumerated q (y ∷ ys) a (suc k) j x e at is =
    or_right (q (a, y)) (list_any q (enumerate_from (a + 1) ys)) (any_enumerated q ys (a + 1) k j x (omega (arith, e)) at is)
