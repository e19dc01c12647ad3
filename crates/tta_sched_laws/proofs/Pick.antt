-- The first answer along a list.
use Rattle.std.proofs.Common.{◌≡◌, ◌⊎◌, inl, inr, ℕ, zero, suc, Bool, true, false, List, [], ◌∷◌, ◌++◌, Option, Some, None, refl, sym, ap, ◌∙◌}
use Rattle.std.specs.Prelude.{slice_get, option_and_then, ◌||◌}
use Rattle.std.specs.List.{filter_map, cons_option, list_any}
use Rattle.tta_sched_laws.specs.Cited.{or_else}
use Rattle.tta_arch.specs.Effects.{first_some as pick}

abbrev pub Has : {A : Type 0} → List A → A → Type 0
Has xs x = (k : ℕ) × (slice_get xs k ≡ Some x)

or_assoc : {A : Type 0} (a b c : Option A) → or_else (or_else a b) c ≡ or_else a (or_else b c)
or_assoc None b c = refl
or_assoc (Some x) b c = refl

pub pick-append : {A B : Type 0} (f : A → Option B) (xs ys : List A) → pick f (xs ++ ys) ≡ or_else (pick f xs) (pick f ys)
pick-append f [] ys = refl
pick-append f (x ∷ xs) ys = ap (or_else (f x)) (pick-append f xs ys) ∙ sym (or_assoc (f x) (pick f xs) (pick f ys))

pub pick-filter_map : {A B C : Type 0} (f : B → Option C) (g : A → Option B) (xs : List A) → pick f (filter_map g xs) ≡ pick (λ x. option_and_then f (g x)) xs
pick-filter_map f g [] = refl
pick-filter_map f g (x ∷ xs) = on (g x) (pick-filter_map f g xs) where
  on : (o : Option _) → pick f (filter_map g xs) ≡ pick (λ x. option_and_then f (g x)) xs → pick f (cons_option o (filter_map g xs)) ≡ or_else (option_and_then f o) (pick (λ x. option_and_then f (g x)) xs)
  on None ih = ih
  on (Some y) ih = ap (or_else (f y)) ih

pub pick_none : {A B : Type 0} (f : A → Option B) (xs : List A) → ((x : A) → Has xs x → f x ≡ None) → pick f xs ≡ None
pick_none f [] h = refl
pick_none f (x ∷ xs) h = rw (h x (0, refl)) (pick_none f xs (λ y p. h y (suc p.0, p.1)))

-- where one element alone can answer
pub pick_one : {A B : Type 0} (f : A → Option B) (xs : List A) (x : A) → Has xs x → ((y : A) → Has xs y → (f y ≡ None) ⊎ (y ≡ x)) → pick f xs ≡ f x
pick_one f xs x has h = on (f x) refl where
  some : (ys : List _) (v : _) → f x ≡ Some v → Has ys x → ((y : _) → Has ys y → (f y ≡ None) ⊎ (y ≡ x)) → pick f ys ≡ Some v
  some [] v e p g = cc
  some (y ∷ ys) v e (zero, p) g = let q : y ≡ x = cc in let r : f y ≡ Some v = ap f q ∙ e in rw r refl
  some (y ∷ ys) v e (suc k, p) g = elim (g y (0, refl)) [
    | inl none ↦ rw none (some ys v e (k, p) (λ z q. g z (suc q.0, q.1)))
    | inr is ↦ let r : f y ≡ Some v = ap f is ∙ e in rw r refl
  ]

  on : (o : Option _) → f x ≡ o → pick f xs ≡ f x
  on None e = pick_none f xs (λ y p. elim (h y p) [ inl none ↦ none | inr is ↦ ap f is ∙ e ]) ∙ sym e
  on (Some v) e = some xs v e has h ∙ sym e

pub pick_same : {A B : Type 0} (f g : A → Option B) (xs : List A) → ((x : A) → f x ≡ g x) → pick f xs ≡ pick g xs
pick_same f g [] h = refl
pick_same f g (x ∷ xs) h = rw (h x) (ap (or_else (g x)) (pick_same f g xs h))

pub and_then_assoc : {A B C : Type 0} (f : B → Option C) (g : A → Option B) (o : Option A) → option_and_then f (option_and_then g o) ≡ option_and_then (λ x. option_and_then f (g x)) o
and_then_assoc f g None = refl
and_then_assoc f g (Some x) = refl

-- ---- what stands in a list

pub has_filter_map : {A B : Type 0} (f : A → Option B) (xs : List A) (y : B) → Has (filter_map f xs) y → (x : A) × Has xs x × (f x ≡ Some y)
has_filter_map f [] y p = absurd cc
has_filter_map f (x ∷ xs) y p = on (f x) refl p (λ q. has_filter_map f xs y q) where
  more : (x' : _) × Has xs x' × (f x' ≡ Some y) → (x' : _) × Has (x ∷ xs) x' × (f x' ≡ Some y)
  more r = (r.0, (suc r.1.0, r.1.1), r.2)

  on : (o : Option _) → f x ≡ o → Has (cons_option o (filter_map f xs)) y → (Has (filter_map f xs) y → (x' : _) × Has xs x' × (f x' ≡ Some y)) → (x' : _) × Has (x ∷ xs) x' × (f x' ≡ Some y)
  on None e q ih = more (ih q)
  on (Some z) e (zero, q) ih = (x, (0, refl), cc)
  on (Some z) e (suc k, q) ih = more (ih (k, q))

pub filter_map_none : {A B : Type 0} (f : A → Option B) (xs : List A) → ((x : A) → Has xs x → f x ≡ None) → filter_map f xs ≡ []
filter_map_none f [] h = refl
filter_map_none f (x ∷ xs) h = rw (h x (0, refl)) (filter_map_none f xs (λ y p. h y (suc p.0, p.1)))

pub any_none : {A : Type 0} (p : A → Bool) (xs : List A) → ((x : A) → Has xs x → p x ≡ false) → list_any p xs ≡ false
any_none p [] h = refl
any_none p (x ∷ xs) h = rw (h x (0, refl)) (any_none p xs (λ y q. h y (suc q.0, q.1)))

pub filter_map_has : {A B : Type 0} (f : A → Option B) (xs : List A) (x : A) (y : B) → Has xs x → f x ≡ Some y → Has (filter_map f xs) y
filter_map_has f [] x y p e = absurd cc
filter_map_has f (z ∷ xs) x y (zero, p) e = let same : z ≡ x = cc in let g : f z ≡ Some y = ap f same ∙ e in rw g (0, refl)
filter_map_has f (z ∷ xs) x y (suc k, p) e = on (f z) (filter_map_has f xs x y (k, p) e) where
  on : (o : Option _) → Has (filter_map f xs) y → Has (cons_option o (filter_map f xs)) y
  on None h = h
  on (Some w) h = (suc h.0, h.1)

pub any_has : {A : Type 0} (p : A → Bool) (xs : List A) (x : A) → Has xs x → p x ≡ true → list_any p xs ≡ true
any_has p [] x h e = absurd cc
any_has p (y ∷ xs) x (zero, h) e = let same : y ≡ x = cc in let g : p y ≡ true = ap p same ∙ e in rw g refl
any_has p (y ∷ xs) x (suc k, h) e = on (p y) (any_has p xs x (k, h) e) where
  on : (b : Bool) → list_any p xs ≡ true → (b || list_any p xs) ≡ true
  on true h = refl
  on false h = h

pub and_then_some : {A B : Type 0} (f : A → Option B) (o : Option A) (y : B) → option_and_then f o ≡ Some y → (x : A) × (o ≡ Some x) × (f x ≡ Some y)
and_then_some f None y e = absurd cc
and_then_some f (Some x) y e = (x, refl, e)
