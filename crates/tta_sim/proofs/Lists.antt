-- Lists that grow by what a function gives of each element.
use Rattle.std.proofs.Common.{◌≡◌, ◌<◌, ◌≤◌, ◌+◌, ℕ, suc, Bool, false, List, [], ◌∷◌, ◌++◌, length, take, drop, get_or, Option, None, Some, Bor, refl, ap, sym, ◌∙◌, arith}
use Rattle.std.specs.Prelude.{◌||◌, option_to_list, option_copied, slice_get}
use Rattle.std.specs.Slice.{IsItemAt}
use Rattle.std.specs.List.{filter_map, cons_option, list_any}
use Rattle.std.proofs.lemmas.List.{take_more, drop_more, length-take-le}
use Rattle.std.proofs.lemmas.List.Elements.{filter_map-append}
use Rattle.std.proofs.lemmas.List.Folds.{list_any-append}
use Rattle.std.proofs.Math.Bool.{or-false, or_comm}
use Rattle.tta_list.proofs.Lists.{item_there, item_past}

pub filter_map-one : {A B : Type 0} (f : A → Option B) (x : A) → filter_map f (x ∷ []) ≡ option_to_list (f x)
filter_map-one {A} {B} f x = elim (f x) as (λ o. cons_option o [] ≡ option_to_list o) [ None ↦ refl | Some y ↦ refl ]

pub filter_map-more : {A B : Type 0} (f : A → Option B) (xs : List A) (i : ℕ) (d : A) (old new : List B) → i < length xs
    → old ≡ filter_map f (take i xs) → new ≡ old ++ option_to_list (f (get_or xs i d)) → new ≡ filter_map f (take (i + 1) xs)
filter_map-more f xs i d old new within before added =
    added ∙ ap (λ ys. ys ++ option_to_list (f (get_or xs i d))) before
    ∙ ap (λ ys. filter_map f (take i xs) ++ ys) (sym (filter_map-one f (get_or xs i d)))
    ∙ sym (filter_map-append f (take i xs) (get_or xs i d ∷ []))
    ∙ ap (filter_map f) (sym (take_more xs i d within))

pub length-filter_map : {A B : Type 0} (f : A → Option B) (xs : List A) → length (filter_map f xs) ≤ length xs
length-filter_map f [] = omega arith
length-filter_map f (x ∷ xs) =
    let rest = length-filter_map f xs in
    elim (f x) as (λ o. length (cons_option o (filter_map f xs)) ≤ suc (length xs)) [ None ↦ omega (arith, rest) | Some y ↦ omega (arith, rest) ]

-- a test of one more element
pub any_more : {A : Type 0} (p : A → Bool) (xs : List A) (i : ℕ) (d : A) (old one new : Bool) → i < length xs → old ≡ list_any p (take i xs)
    → one ≡ p (get_or xs i d) → new ≡ (one || old) → new ≡ list_any p (take (i + 1) xs)
any_more p xs i d old one new within before here joined =
    let next = get_or xs i d in
    joined ∙ ap (λ b. b || old) here ∙ ap (λ b. p next || b) before ∙ or_comm (p next) (list_any p (take i xs))
    ∙ ap (λ b. list_any p (take i xs) || b) (sym (or-false (p next)))
    ∙ sym (list_any-append p (take i xs) (next ∷ [])) ∙ ap (list_any p) (sym (take_more xs i d within))

-- a test that the next element does not pass is one of those after it
pub any_left : {A : Type 0} (p : A → Bool) (xs : List A) (i : ℕ) (d : A) (all : Bool) → i < length xs → all ≡ list_any p (drop i xs)
    → p (get_or xs i d) ≡ false → all ≡ list_any p (drop (i + 1) xs)
any_left p xs i d all within before here =
    before ∙ ap (list_any p) (drop_more xs i d within) ∙ ap (λ b. b || list_any p (drop (i + 1) xs)) here

-- no more elements come of a function than it is given
pub length-so_far : {A B : Type 0} (f : A → Option B) (xs : List A) (i : ℕ) (ys : List B) → i < length xs → ys ≡ filter_map f (take i xs) → length ys ≤ i
length-so_far f xs i ys within are = omega (arith, ap length are, length-filter_map f (take i xs), length-take-le i xs (omega arith))

-- ---- looked up

-- an element that is handed out is the one at its place
pub item_copied : {X : Type 0} (xs : List X) (k : ℕ) (r : Option (Bor X)) → IsItemAt xs k r → option_copied r ≡ slice_get xs k
item_copied xs k None at = sym (item_past xs xs k k refl refl at.0)
item_copied xs k (Some x) at = sym (item_there xs xs k k x.now refl refl at.0 at.1)
