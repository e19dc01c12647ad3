-- What holds of the elements of a list by their places, of all of them, and of how many, when the list grows or one
-- element changes.
use Rattle.std.proofs.Common.{◌≡◌, ◌<◌, ◌+◌, ◌++◌, ◌∷◌, [], ℕ, Bool, List, Some, None, true, false, zero, suc, length, ltb, get_or, refl, sym, ap, subst, arith, ◌∙◌, ◌⊎◌, inl, inr, ⊎_elim, map, Option, append_assoc, ◌≤◌, drop, take}
use Rattle.std.specs.Prelude.{◌&&◌, slice_get, slice_set, filter, if◌then◌else◌, is_some, nat_lt, replicate, slice_index}
use Rattle.std.specs.List.{list_all, AllByRecursion, list_any, sum_by, filter_map, cons_option, range_with_len, flat_map}
use Rattle.std.proofs.lemmas.Option.{slice_get_past, slice_get_read}
use Rattle.std.proofs.lemmas.Bool.{ltb-true, ltb-false, and_parts, and_from, or_parts, or_from}
use Rattle.std.proofs.lemmas.List.Folds.{list_all-append}
use Rattle.std.specs.Option.{option_map_or}
use Rattle.std.proofs.lemmas.List.Sums.{sum_by-cons}
use Rattle.std.proofs.lemmas.List.{length-append, append-nil}
use Rattle.std.proofs.lemmas.Grind.{flat_map-append}
use Rattle.std.specs.Str.{bytes_eq}
use Rattle.std.proofs.lemmas.Slice.Eq.{bytes_eq-Decides}

-- ---- elements by their places

-- an element of a list with one more stood there, or is the one more
pub slice_get-push : {A : Type 0} (xs : List A) (x : A) (k : ℕ) (y : A) → slice_get (xs ++ x ∷ []) k ≡ Some y
    → (slice_get xs k ≡ Some y) ⊎ ((k ≡ length xs) × (x ≡ y))
slice_get-push [] x zero y e = inr (refl, cc)
slice_get-push [] x (suc k) y e = cc
slice_get-push (z ∷ zs) x zero y e = inl e
slice_get-push (z ∷ zs) x (suc k) y e = ⊎_elim (λ h. inl h) (λ h. inr (ap suc h.0, h.1)) (slice_get-push zs x k y e)

-- an element stays where it stands when the list grows
pub slice_get-longer : {A : Type 0} (xs ys : List A) (k : ℕ) (y : A) → slice_get xs k ≡ Some y → slice_get (xs ++ ys) k ≡ Some y
slice_get-longer [] ys k y e = cc
slice_get-longer (x ∷ xs) ys zero y e = e
slice_get-longer (x ∷ xs) ys (suc k) y e = slice_get-longer xs ys k y e

-- an element after a change of another or of itself
pub slice_get-changed : {A : Type 0} (xs : List A) (i : ℕ) (v : A) (k : ℕ) (y : A) → slice_get (slice_set xs i v) k ≡ Some y
    → (slice_get xs k ≡ Some y) ⊎ ((k ≡ i) × (v ≡ y))
slice_get-changed [] i v k y e = inl e
slice_get-changed (x ∷ xs) zero v zero y e = inr (refl, cc)
slice_get-changed (x ∷ xs) zero v (suc k) y e = inl e
slice_get-changed (x ∷ xs) (suc i) v zero y e = inl e
slice_get-changed (x ∷ xs) (suc i) v (suc k) y e = ⊎_elim (λ h. inl h) (λ h. inr (ap suc h.0, h.1)) (slice_get-changed xs i v k y e)

-- an element of the first of two lists
pub slice_get-front : {A : Type 0} (xs ys : List A) (k : ℕ) → k < length xs → slice_get (xs ++ ys) k ≡ slice_get xs k
slice_get-front [] ys k h = absurd (omega arith)
slice_get-front (x ∷ xs) ys zero h = refl
slice_get-front (x ∷ xs) ys (suc k) h = slice_get-front xs ys k (omega arith)

-- an element of the second
pub slice_get-back : {A : Type 0} (xs ys : List A) (k : ℕ) → slice_get (xs ++ ys) (length xs + k) ≡ slice_get ys k
slice_get-back [] ys k = ap (slice_get ys) (omega arith)
slice_get-back (x ∷ xs) ys k =
    let e : suc (length xs) + k ≡ suc (length xs + k) = omega arith in
    rw e (slice_get-back xs ys k)

-- a place within a list has an element
pub some_within : {A : Type 0} (xs : List A) (k : ℕ) → k < length xs → is_some (slice_get xs k) ≡ true
some_within [] k h = absurd (omega arith)
some_within (x ∷ xs) zero h = refl
some_within (x ∷ xs) (suc k) h = some_within xs k (omega arith)

-- the same by the test for the place
pub some_below : {A : Type 0} (xs : List A) (k : ℕ) → nat_lt k (length xs) ≡ true → is_some (slice_get xs k) ≡ true
some_below xs k below = some_within xs k (ltb-true k (length xs) below)

-- what is looked up in a list is what stands there, or nothing
pub item_there : {X : Type 0} (items xs : List X) (k n : ℕ) (x : X) → items ≡ xs → k ≡ n → true ≡ ltb k (length items) → x ≡ get_or items k x
    → slice_get xs n ≡ Some x
item_there items xs k n x same at inside is =
    ap (λ l. slice_get l n) (sym same) ∙ ap (slice_get items) (sym at)
    ∙ slice_get_read items (length items) k x refl (ltb-true k (length items) (sym inside)) is

pub item_past : {X : Type 0} (items xs : List X) (k n : ℕ) → items ≡ xs → k ≡ n → false ≡ ltb k (length items) → slice_get xs n ≡ None
item_past items xs k n same at past =
    ap (λ l. slice_get l n) (sym same) ∙ ap (slice_get items) (sym at) ∙ slice_get_past items k (ltb-false k (length items) (sym past))

-- ---- a test of all elements

-- one element more, a weaker test, a changed element, and one element alone
pub list_all_push : {A : Type 0} (p : A → Bool) (xs : List A) (x : A) → list_all p xs ≡ true → p x ≡ true → list_all p (xs ++ x ∷ []) ≡ true
list_all_push p xs x all one = list_all-append p xs (x ∷ []) ∙ and_from (list_all p xs) (p x && true) all (and_from (p x) true one refl)

pub list_all_weaker : {A : Type 0} (p q : A → Bool) (xs : List A) → ((x : A) → p x ≡ true → q x ≡ true) → list_all p xs ≡ true → list_all q xs ≡ true
list_all_weaker p q [] weaker all = refl
list_all_weaker p q (x ∷ xs) weaker all =
    let parts = and_parts (p x) (list_all p xs) all in
    and_from (q x) (list_all q xs) (weaker x parts.0) (list_all_weaker p q xs weaker parts.1)

pub list_all_changed : {A : Type 0} (p : A → Bool) (xs : List A) (i : ℕ) (v : A) → list_all p xs ≡ true → p v ≡ true → list_all p (slice_set xs i v) ≡ true
list_all_changed p [] i v all one = refl
list_all_changed p (x ∷ xs) zero v all one = and_from (p v) (list_all p xs) one (and_parts (p x) (list_all p xs) all).1
list_all_changed p (x ∷ xs) (suc i) v all one =
    let parts = and_parts (p x) (list_all p xs) all in
    and_from (p x) (list_all p (slice_set xs i v)) parts.0 (list_all_changed p xs i v parts.1 one)

pub list_all_one : {A : Type 0} (p : A → Bool) (xs : List A) (k : ℕ) (x : A) → list_all p xs ≡ true → slice_get xs k ≡ Some x → p x ≡ true
list_all_one p [] k x all e = cc
list_all_one p (y ∷ ys) zero x all e =
    let same : y ≡ x = cc in subst (λ z. p z ≡ true) same (and_parts (p y) (list_all p ys) all).0
list_all_one p (y ∷ ys) (suc k) x all e = list_all_one p ys k x (and_parts (p y) (list_all p ys) all).1 e

-- ---- a fact of all elements

-- one element more, one element alone, a weaker fact, and two lists
pub all_push : {A : Type 0} (P : A → Type 0) (xs : List A) (x : A) → AllByRecursion P xs → P x → AllByRecursion P (xs ++ x ∷ [])
all_push P [] x all one = (one, tt)
all_push P (y ∷ ys) x all one = (all.0, all_push P ys x all.1 one)

pub all_one : {A : Type 0} (P : A → Type 0) (xs : List A) (k : ℕ) (x : A) → AllByRecursion P xs → slice_get xs k ≡ Some x → P x
all_one P [] k x all e = cc
all_one P (y ∷ ys) zero x all e = let same : y ≡ x = cc in subst P same all.0
all_one P (y ∷ ys) (suc k) x all e = all_one P ys k x all.1 e

pub all_weaker : {A : Type 0} (P Q : A → Type 0) (xs : List A) → ((x : A) → P x → Q x) → AllByRecursion P xs → AllByRecursion Q xs
all_weaker P Q [] weaker all = tt
all_weaker P Q (x ∷ xs) weaker all = (weaker x all.0, all_weaker P Q xs weaker all.1)

pub all_append : {A : Type 0} (P : A → Type 0) (xs ys : List A) → AllByRecursion P xs → AllByRecursion P ys → AllByRecursion P (xs ++ ys)
all_append P [] ys left right = right
all_append P (x ∷ xs) ys left right = (left.0, all_append P xs ys left.1 right)

-- ---- how many elements pass a test

-- a change to an element of the same answer
pub count_changed : {A : Type 0} (p : A → Bool) (xs : List A) (i : ℕ) (v old : A) → slice_get xs i ≡ Some old → p v ≡ p old
    → length (filter p (slice_set xs i v)) ≡ length (filter p xs)
count_changed p [] i v old e same = refl
count_changed p (x ∷ xs) zero v old e same =
    let here : x ≡ old = cc in
    let alike : p v ≡ p x = same ∙ ap p (sym here) in
    rw alike (by (p x)) where
      by : (b : Bool) → length (if b then v ∷ filter p xs else filter p xs) ≡ length (if b then x ∷ filter p xs else filter p xs)
      by true = refl
      by false = refl
count_changed p (x ∷ xs) (suc i) v old e same = by (count_changed p xs i v old e same) (p x) where
  by : length (filter p (slice_set xs i v)) ≡ length (filter p xs) → (b : Bool) → length (if b then x ∷ filter p (slice_set xs i v) else filter p (slice_set xs i v)) ≡ length (if b then x ∷ filter p xs else filter p xs)
  by later true = ap suc later
  by later false = later

-- the same of a test
pub all_from : {A : Type 0} (p : A → Bool) (xs : List A) → ((k : ℕ) (x : A) → slice_get xs k ≡ Some x → p x ≡ true) → list_all p xs ≡ true
all_from p [] each = refl
all_from p (x ∷ xs) each = and_from (p x) (list_all p xs) (each 0 x refl) (all_from p xs (λ k y e. each (suc k) y e))

pub zeros : (n k : ℕ) → slice_index (replicate n 0) k ≡ 0
zeros zero k = refl
zeros (suc n) zero = refl
zeros (suc n) (suc k) = zeros n k

pub element : {A : Type 0} (xs : List A) (k : ℕ) → k < length xs → (x : A) × (slice_get xs k ≡ Some x)
element [] k low = absurd (omega arith)
element (x ∷ xs) zero low = (x, refl)
element (x ∷ xs) (suc k) low = element xs k (omega arith)

pub any_there : {A : Type 0} (p : A → Bool) (xs : List A) (k : ℕ) (x : A) → slice_get xs k ≡ Some x → p x ≡ true → list_any p xs ≡ true
any_there p [] k x at is = cc
any_there p (y ∷ ys) zero x at is = let here : p y ≡ true = ap (λ o. option_map_or p o false) at ∙ is in rw here refl
any_there p (y ∷ ys) (suc k) x at is = let rest = any_there p ys k x at is in grind (arith, rest)

pub sum_by-map : {X Y : Type 0} (g : Y → ℕ) (f : X → Y) (xs : List X) → sum_by g (map f xs) ≡ sum_by (λ x. g (f x)) xs
sum_by-map g f [] = refl
sum_by-map g f (x ∷ xs) = sum_by-cons g (f x) (map f xs) ∙ ap (λ (s : ℕ). g (f x) + s) (sum_by-map g f xs) ∙ sym (sum_by-cons (λ x. g (f x)) x xs)

pub item_behind : {A : Type 0} (xs : List A) (y : A) → slice_get (xs ++ y ∷ []) (length xs) ≡ Some y
item_behind [] y = refl
item_behind (x ∷ xs) y = item_behind xs y

pub length_more : {A : Type 0} (xs : List A) (x : A) → length (xs ++ x ∷ []) ≡ length xs + 1
length_more xs x = length-append xs (x ∷ [])

pub any_none : {A : Type 0} (q : A → Bool) (xs : List A) → list_any q xs ≡ false → AllByRecursion (λ x. q x ≡ false) xs
any_none q [] h = tt
any_none q (x ∷ xs) h = let p = or_parts (q x) _ h in (p.0, any_none q xs p.1)

pub map_count : {A B : Type 0} (f : A → B) (xs : List A) → length (map f xs) ≡ length xs
map_count f [] = refl
map_count f (x ∷ xs) = let e = map_count f xs in omega arith

pub and_both : {A : Type 0} (t : A → Bool) (xs ys : List A) → list_all t xs ≡ true → list_all t ys ≡ true → list_all t (xs ++ ys) ≡ true
and_both t xs ys a b = list_all-append t xs ys ∙ (rw (a, b) refl)

-- no element that differs from the one that gives p gives one like p
pub any_filter_map : {A B : Type 0} (same : A → A → Bool) (same' : B → B → Bool) (f : A → Option B) (x : A) (p : B)
    → ((y : A) (q : B) → f y ≡ Some q → same x y ≡ false → same' p q ≡ false)
    → (xs : List A) → list_any (same x) xs ≡ false → list_any (same' p) (filter_map f xs) ≡ false
any_filter_map same same' f x p tells [] none = refl
any_filter_map same same' f x p tells (y ∷ xs) none =
    let both = or_parts (same x y) (list_any (same x) xs) none in
    let rest = any_filter_map same same' f x p tells xs both.1 in
    elim (f y) as (λ o. f y ≡ o → list_any (same' p) (cons_option o (filter_map f xs)) ≡ false) [
      | None ↦ λ is. rest
      | Some q ↦ λ is. or_from (same' p q) (list_any (same' p) (filter_map f xs)) (tells y q is both.0) rest
    ] refl

-- a piece was put, and then the rest
pub then_more : (old mid new a rest : List ℕ) → mid ≡ old ++ a → new ≡ mid ++ rest → new ≡ old ++ (a ++ rest)
then_more old mid new a rest first second = second ∙ ap (λ (t : List ℕ). t ++ rest) first ∙ append_assoc old a rest

-- one number more at the end of others
pub range_more : (a n j : ℕ) → a + n ≡ j → range_with_len a (n + 1) ≡ range_with_len a n ++ j ∷ []
range_more a zero j is = let e : a ≡ j = omega arith in ap (λ (x : ℕ). x ∷ []) e
range_more a (suc n) j is =
    let e : a + 1 + n ≡ j = omega arith in
    let s : suc n + 1 ≡ suc (n + 1) = omega arith in
    ap (range_with_len a) s ∙ ap (λ (xs : List ℕ). a ∷ xs) (range_more (a + 1) n j e)

-- the text of one number more
pub number_more : (text : ℕ → List ℕ) (old new start : List ℕ) (n : ℕ) → new ≡ old ++ text n
    → old ≡ start ++ flat_map text (range_with_len 0 n) → new ≡ start ++ flat_map text (range_with_len 0 (n + 1))
number_more text old new start n more was =
    let before : List ℕ = flat_map text (range_with_len 0 n) in
    let end : flat_map text (range_with_len 0 (n + 1)) ≡ before ++ text n =
    ap (flat_map text) (range_more 0 n n (omega arith)) ∙ flat_map-append text (range_with_len 0 n) (n ∷ [])
    ∙ ap (λ (t : List ℕ). before ++ t) (append-nil (text n)) in
    more ∙ ap (λ (t : List ℕ). t ++ text n) was ∙ append_assoc start before (text n) ∙ ap (λ (t : List ℕ). start ++ t) (sym end)

pub past_end : (words : List ℕ) (i : ℕ) → length words ≤ i → get_or words i 0 ≡ 0
past_end [] i past = refl
past_end (w ∷ ws) zero past = absurd (omega arith)
past_end (w ∷ ws) (suc i) past = past_end ws i (omega arith)

pub item_at : {X : Type 0} (xs : List X) (k : ℕ) (x : X) → k < length xs → x ≡ get_or xs k x → slice_get xs k ≡ Some x
item_at {X = X} [] k x h is = absurd (omega arith)
item_at {X = X} (y ∷ xs) zero x h is = ap (λ (z : X). Some z) (sym is)
item_at {X = X} (y ∷ xs) (suc k) x h is = item_at xs k x (omega arith) is

-- what stands at a place begins the rest of the list
pub drop-there : {A : Type 0} (xs : List A) (k : ℕ) (x : A) → slice_get xs k ≡ Some x → drop k xs ≡ x ∷ drop (k + 1) xs
drop-there [] k x is = cc
drop-there (y ∷ ys) zero x is =
    let same : y ≡ x = cc in
    rw same refl
drop-there (y ∷ ys) (suc k) x is =
    let e : suc k + 1 ≡ suc (k + 1) = omega arith in
    rw e (drop-there ys k x is)

pub length_ones : {A : Type 0} (xs : List A) → length xs ≡ sum_by (λ x. 1) xs
length_ones [] = refl
length_ones (x ∷ xs) = let ih = length_ones xs in let e : sum_by (λ x. 1) (x ∷ xs) ≡ 1 + sum_by (λ x. 1) xs = sum_by-cons (λ x. 1) x xs in omega (arith, ih, e)

pub same_bytes : (n : List ℕ) → bytes_eq n n ≡ true
same_bytes n = (bytes_eq-Decides n n).1 refl

-- a prefix with one item more
pub take_one_more : {A : Type 0} (xs : List A) (k : ℕ) (x : A) → slice_get xs k ≡ Some x → take (suc k) xs ≡ take k xs ++ x ∷ []
take_one_more [] k x e = cc
take_one_more (y ∷ ys) zero x e = let same : y ≡ x = cc in rw same refl
take_one_more (y ∷ ys) (suc k) x e = ap (λ l. y ∷ l) (take_one_more ys k x e)
