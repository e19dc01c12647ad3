-- Items of lists that pass a test, and the place of the first of them.
use Rattle.std.proofs.Common.{◌≡◌, ℕ, zero, suc, ◌+◌, ◌<◌, Bool, true, false, ◌&&◌, ◌||◌, List, [], ◌∷◌, ◌++◌, length, map, filter, get_or, slice_get, Some, refl, sym, ap, ◌∙◌, arith}
use Rattle.std.specs.List.{list_any, flat_map, enumerate_from, range_with_len, position_or_len}
use Rattle.std.proofs.lemmas.Bool.{false≢true, or_left, or_right}
use Rattle.std.proofs.lemmas.Option.{none-some, same_Some}
use Rattle.std.proofs.lemmas.List.Sums.{passes_at_first}

place_by : {X : Type 0} (q : X → Bool) (x : X) (xs : List X) (b : Bool) → q x ≡ b → (b || list_any q xs) ≡ true → (list_any q xs ≡ true → position_or_len q xs < length xs)
    → position_or_len q (x ∷ xs) < length (x ∷ xs)
place_by q x xs true is h rest = rw is (omega arith)
place_by q x xs false is h rest = let lt = rest h in rw is (omega arith)

-- where some item passes, the first place that passes is inside the list
pub place_inside : {X : Type 0} (q : X → Bool) (xs : List X) → list_any q xs ≡ true → position_or_len q xs < length xs
place_inside q [] h = absurd (false≢true h)
place_inside q (x ∷ xs) h = place_by q x xs (q x) refl h (place_inside q xs)

-- two tests that are first passed at one place are passed by one item
pub one_item : {X : Type 0} (q q' : X → Bool) (xs : List X) (d : X) → list_any q xs ≡ true → list_any q' xs ≡ true → position_or_len q xs ≡ position_or_len q' xs
    → (x : X) × (q x ≡ true) × (q' x ≡ true)
one_item q q' xs d some some' same = (
  get_or xs (position_or_len q xs) d,
  passes_at_first q xs d (place_inside q xs some),
  ap (λ k. q' (get_or xs k d)) same ∙ passes_at_first q' xs d (place_inside q' xs some'),
)

pub any_left : {X : Type 0} (q : X → Bool) (xs ys : List X) → list_any q xs ≡ true → list_any q (xs ++ ys) ≡ true
any_left q [] ys h = absurd (false≢true h)
any_left q (x ∷ xs) ys h = by (q x) refl (any_left q xs ys) where
  by : (b : Bool) → q x ≡ b → (list_any q xs ≡ true → list_any q (xs ++ ys) ≡ true) → list_any q ((x ∷ xs) ++ ys) ≡ true
  by true is rest = or_left (q x) (list_any q (xs ++ ys)) is
  by false is rest = or_right (q x) (list_any q (xs ++ ys)) (rest (rw is at h))

pub any_right : {X : Type 0} (q : X → Bool) (xs ys : List X) → list_any q ys ≡ true → list_any q (xs ++ ys) ≡ true
any_right q [] ys h = h
any_right q (x ∷ xs) ys h = or_right (q x) (list_any q (xs ++ ys)) (any_right q xs ys h)

-- an item that a filter lets through
pub any_kept : {X : Type 0} (p q : X → Bool) (xs : List X) → ((x : X) → q x ≡ true → p x ≡ true) → list_any q xs ≡ true → list_any q (filter p xs) ≡ true
any_kept p q [] through h = absurd (false≢true h)
any_kept p q (x ∷ xs) through h = by (q x) (p x) refl refl (any_kept p q xs through) where
  by : (b k : Bool) → q x ≡ b → p x ≡ k → (list_any q xs ≡ true → list_any q (filter p xs) ≡ true) → list_any q (filter p (x ∷ xs)) ≡ true
  by true true is kept rest = rw kept (or_left (q x) (list_any q (filter p xs)) is)
  by true false is kept rest = absurd (false≢true (sym kept ∙ through x is))
  by false true is kept rest = rw kept (or_right (q x) (list_any q (filter p xs)) (rest (rw is at h)))
  by false false is kept rest = rw kept (rest (rw is at h))

-- an item that passes two tests
pub any_both : {X : Type 0} (p q : X → Bool) (xs : List X) → list_any (λ x. p x && q x) xs ≡ true → list_any q (filter p xs) ≡ true
any_both p q [] h = absurd (false≢true h)
any_both p q (x ∷ xs) h = by (p x) (q x) refl refl (any_both p q xs) where
  by : (k b : Bool) → p x ≡ k → q x ≡ b → (list_any (λ y. p y && q y) xs ≡ true → list_any q (filter p xs) ≡ true) → list_any q (filter p (x ∷ xs)) ≡ true
  by true true kept is rest = rw kept (or_left (q x) (list_any q (filter p xs)) is)
  by true false kept is rest = rw kept (or_right (q x) (list_any q (filter p xs)) (rest (rw (kept, is) at h)))
  by false b kept is rest = rw kept (rest (rw kept at h))

-- an item of what one place gives
pub any_pieces : {X A : Type 0} (q : A → Bool) (g : ℕ × X → List A) (xs : List X) (a k j : ℕ) (x : X) → a + k ≡ j → slice_get xs k ≡ Some x
    → list_any q (g (j, x)) ≡ true → list_any q (flat_map g (enumerate_from a xs)) ≡ true
any_pieces q g [] a k j x e at h = absurd (none-some x at)
any_pieces q g (y ∷ ys) a zero j x e at h =
    let first : a ≡ j = omega arith in
    any_left q (g (a, y)) (flat_map g (enumerate_from (a + 1) ys)) (ap (λ i. list_any q (g (i, y))) first ∙ ap (λ z. list_any q (g (j, z))) (same_Some y x at) ∙ h)
any_pieces q g (y ∷ ys) a (suc k) j x e at h =
    any_right q (g (a, y)) (flat_map g (enumerate_from (a + 1) ys)) (any_pieces q g ys (a + 1) k j x (omega arith) at h)

-- an item that a number below n gives
pub any_numbered : {A : Type 0} (q : A → Bool) (h : ℕ → A) (a n i j : ℕ) → a + i ≡ j → i < n → q (h j) ≡ true → list_any q (map h (range_with_len a n)) ≡ true
any_numbered q h a zero i j e lt pass = absurd (omega arith)
any_numbered q h a (suc n) zero j e lt pass =
    let first : a ≡ j = omega arith in
    or_left (q (h a)) (list_any q (map h (range_with_len (a + 1) n))) (ap (λ k. q (h k)) first ∙ pass)
any_numbered q h a (suc n) (suc i) j e lt pass =
    or_right (q (h a)) (list_any q (map h (range_with_len (a + 1) n))) (any_numbered q h (a + 1) n i j (omega arith) (omega arith) pass)
