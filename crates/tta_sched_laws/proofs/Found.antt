-- What stands in lists that are made from others.
use Rattle.tta_sched_laws.proofs.Tests.{and_not}
use Rattle.std.proofs.Common.{◌≡◌, ◌≢◌, ◌⊎◌, inl, inr, ℕ, zero, suc, ◌+◌, ◌<◌, Bool, true, false, List, [], ◌∷◌, ◌++◌, Option, Some, None, refl, sym, ap, ◌∙◌, arith, map, filter}
use Rattle.std.specs.Prelude.{slice_get, ◌||◌, if◌then◌else◌}
use Rattle.std.specs.List.{list_any, range_with_len}
use Rattle.std.proofs.lemmas.Bool.{cases_lt}
use Rattle.tta_sched_laws.specs.Cited.{or_else, are_different}
use Rattle.tta_arch.specs.Effects.{first_some as pick}
use Rattle.tta_sched_laws.proofs.Pick.{Has, pick_one}

pub has_append : {A : Type 0} (xs ys : List A) (y : A) → Has (xs ++ ys) y → Has xs y ⊎ Has ys y
has_append [] ys y p = inr p
has_append (x ∷ xs) ys y (zero, p) = inl (0, p)
has_append (x ∷ xs) ys y (suc k, p) = elim (has_append xs ys y (k, p)) [ inl q ↦ inl (suc q.0, q.1) | inr q ↦ inr q ]

pub has_front : {A : Type 0} (xs ys : List A) (y : A) → Has xs y → Has (xs ++ ys) y
has_front [] ys y p = absurd cc
has_front (x ∷ xs) ys y (zero, p) = (0, p)
has_front (x ∷ xs) ys y (suc k, p) = let q = has_front xs ys y (k, p) in (suc q.0, q.1)

pub has_back : {A : Type 0} (xs ys : List A) (y : A) → Has ys y → Has (xs ++ ys) y
has_back [] ys y p = p
has_back (x ∷ xs) ys y p = let q = has_back xs ys y p in (suc q.0, q.1)

pub has_map : {A B : Type 0} (f : A → B) (xs : List A) (y : B) → Has (map f xs) y → (x : A) × Has xs x × (f x ≡ y)
has_map f [] y p = absurd cc
has_map f (x ∷ xs) y (zero, p) = (x, (0, refl), cc)
has_map f (x ∷ xs) y (suc k, p) = let q = has_map f xs y (k, p) in (q.0, (suc q.1.0, q.1.1), q.2)

pub map_has : {A B : Type 0} (f : A → B) (xs : List A) (x : A) → Has xs x → Has (map f xs) (f x)
map_has f [] x p = absurd cc
map_has f (y ∷ xs) x (zero, p) = (0, cc)
map_has f (y ∷ xs) x (suc k, p) = let q = map_has f xs x (k, p) in (suc q.0, q.1)

pub has_filter : {A : Type 0} (p : A → Bool) (xs : List A) (x : A) → Has (filter p xs) x → Has xs x × (p x ≡ true)
has_filter p [] x h = absurd cc
has_filter p (y ∷ xs) x h = on (p y) refl h (has_filter p xs x) where
  more : Has xs x × (p x ≡ true) → Has (y ∷ xs) x × (p x ≡ true)
  more q = ((suc q.0.0, q.0.1), q.1)

  on : (b : Bool) → p y ≡ b → Has (if b then y ∷ filter p xs else filter p xs) x → (Has (filter p xs) x → Has xs x × (p x ≡ true)) → Has (y ∷ xs) x × (p x ≡ true)
  on true e (zero, q) ih = let same : y ≡ x = cc in ((0, q), ap p (sym same) ∙ e)
  on true e (suc k, q) ih = more (ih (k, q))
  on false e q ih = more (ih q)

pub filter_has : {A : Type 0} (p : A → Bool) (xs : List A) (x : A) → Has xs x → p x ≡ true → Has (filter p xs) x
filter_has p [] x h e = absurd cc
filter_has p (y ∷ xs) x (zero, q) e = let same : y ≡ x = cc in let g : p y ≡ true = ap p same ∙ e in rw g (0, q)
filter_has p (y ∷ xs) x (suc k, q) e = on (p y) (filter_has p xs x (k, q) e) where
  on : (b : Bool) → Has (filter p xs) x → Has (if b then y ∷ filter p xs else filter p xs) x
  on true h = (suc h.0, h.1)
  on false h = h

pub pick_has : {A B : Type 0} (f : A → Option B) (xs : List A) (y : B) → pick f xs ≡ Some y → (x : A) × Has xs x × (f x ≡ Some y)
pick_has f [] y e = absurd cc
pick_has f (x ∷ xs) y e = on (f x) refl e (pick_has f xs y) where
  on : (o : Option _) → f x ≡ o → or_else o (pick f xs) ≡ Some y → (pick f xs ≡ Some y → (x' : _) × Has xs x' × (f x' ≡ Some y)) → (x' : _) × Has (x ∷ xs) x' × (f x' ≡ Some y)
  on None e q ih = let r = ih q in (r.0, (suc r.1.0, r.1.1), r.2)
  on (Some z) e q ih = (x, (0, refl), e ∙ q)

any_at : {A : Type 0} (p : A → Bool) (xs : List A) (k : ℕ) (x : A) → slice_get xs k ≡ Some x → list_any p xs ≡ false → p x ≡ false
any_at p [] k x e n = absurd cc
any_at p (y ∷ xs) zero x e n = let same : y ≡ x = cc in on (p y) refl n where
  on : (b : Bool) → p y ≡ b → (b || list_any p xs) ≡ false → p x ≡ false
  on true q m = absurd cc
  on false q m = let s : y ≡ x = cc in ap p (sym s) ∙ q
any_at p (y ∷ xs) (suc k) x e n = on (p y) n (any_at p xs k x e) where
  on : (b : Bool) → (b || list_any p xs) ≡ false → (list_any p xs ≡ false → p x ≡ false) → p x ≡ false
  on true m ih = absurd cc
  on false m ih = ih m

-- two items of a list without equal ones
pub different_at : {A : Type 0} (same : A → A → Bool) (xs : List A) (i j : ℕ) (x y : A) → i < j → slice_get xs i ≡ Some x → slice_get xs j ≡ Some y → are_different same xs ≡ true → same x y ≡ false
different_at same [] i j x y lt a b e = absurd cc
different_at same (z ∷ xs) i zero x y lt a b e = absurd (omega arith)
different_at same (z ∷ xs) zero (suc j) x y lt a b e =
    let p = and_not (list_any (same z) xs) (are_different same xs) e in
    let s : z ≡ x = cc in
    ap (λ w. same w y) (sym s) ∙ any_at (same z) xs j y b p.0
different_at same (z ∷ xs) (suc i) (suc j) x y lt a b e = different_at same xs i j x y (omega arith) a b (and_not (list_any (same z) xs) (are_different same xs) e).1

-- the first answer where only one item can answer, the others being different from it
pub pick_alone : {A B : Type 0} (f : A → Option B) (xs : List A) (k : ℕ) (x : A) → slice_get xs k ≡ Some x → ((i : ℕ) (y : A) → slice_get xs i ≡ Some y → i ≢ k → f y ≡ None) → pick f xs ≡ f x
pick_alone f xs k x e h = pick_one f xs x (k, e) (λ y p. elim (cases_lt p.0 k) [
  | inl lt ↦ inl (h p.0 y p.1 (λ q. absurd (omega arith)))
  | inr le ↦ elim (cases_lt k p.0) [
    | inl lt ↦ inl (h p.0 y p.1 (λ q. absurd (omega arith)))
    | inr le' ↦ inr (let same : p.0 ≡ k = omega arith in let g : slice_get xs k ≡ Some y = rw same at p.1 in cc)
  ]
])

-- the number of a place in a range
pub range_has : (a n k : ℕ) → k < n → slice_get (range_with_len a n) k ≡ Some (a + k)
range_has a zero k lt = absurd (omega arith)
range_has a (suc n) zero lt = ap Some (omega arith)
range_has a (suc n) (suc k) lt = range_has (a + 1) n k (omega arith) ∙ ap Some (omega arith)
