-- What a search by ranks finds in a list whose ranks rise.
use Rattle.std.proofs.Common.{◌≡◌, ℕ, zero, suc, ◌+◌, ◌<◌, ◌≤◌, Bool, true, false, List, [], ◌∷◌, length, get_or, slice_get, Some, None, refl, sym, ap, ◌∙◌, arith}
use Rattle.std.specs.List.{position, position_or_len}
use Rattle.std.specs.List.Sorted.{IsNonDecreasingBy}
use Rattle.std.proofs.lemmas.Option.{none-some, same_Some}
use Rattle.std.proofs.lemmas.Bool.{false_from_ne_true, le-ltb, lt-ltb, ltb-true, ltb-false}
use Rattle.tta_image.specs.Ranks.{Rising, IsPlaceOf}
use Rattle.tta_image.proofs.Rising.{rising-position}
use Rattle.tta_list.proofs.Lists.{item_at}

ranks_above : {X : Type 0} (rank : X → ℕ) (low high : ℕ) (xs : List X) → Rising rank low xs high → (j : ℕ) (d : X) → j < length xs → low ≤ rank (get_or xs j d)
ranks_above rank low high [] r j d lt = absurd (omega arith)
ranks_above rank low high (x ∷ xs) r zero d lt = r.0
ranks_above rank low high (x ∷ xs) r (suc j) d lt =
    let first = r.0 in let rest = ranks_above rank (rank x + 1) high xs r.1 j d (omega arith) in omega arith

-- ranks that rise do not fall
pub rising_order : {X : Type 0} (rank : X → ℕ) (low high : ℕ) (xs : List X) → Rising rank low xs high → IsNonDecreasingBy rank xs
rising_order rank low high [] r i j d h lt = absurd (omega arith)
rising_order rank low high (x ∷ xs) r zero zero d h lt = omega arith
rising_order rank low high (x ∷ xs) r zero (suc j) d h lt = let above = ranks_above rank (rank x + 1) high xs r.1 j d (omega arith) in omega arith
rising_order rank low high (x ∷ xs) r (suc i) zero d h lt = absurd (omega arith)
rising_order rank low high (x ∷ xs) r (suc i) (suc j) d h lt = rising_order rank (rank x + 1) high xs r.1 i j d (omega arith) (omega arith)

-- no item of a higher rank passes
none_above : {X : Type 0} (rank : X → ℕ) (q : X → Bool) (r low high : ℕ) (xs : List X) → Rising rank low xs high → ((y : X) → q y ≡ true → rank y ≡ r) → r < low
    → position_or_len q xs ≡ length xs
none_above rank q r low high [] rising only h = refl
none_above rank q r low high (x ∷ xs) rising only h =
    let first = rising.0 in
    let is : q x ≡ false = false_from_ne_true (q x) (λ passes. let same = only x passes in absurd (omega arith)) in
    let rest = none_above rank q r (rank x + 1) high xs rising.1 only (omega arith) in
    rw is (omega arith)

-- no item passes, where the one at the place of the rank does not
pub none_sought : {X : Type 0} (rank : X → ℕ) (q : X → Bool) (r low high k : ℕ) (xs : List X) → Rising rank low xs high → ((y : X) → q y ≡ true → rank y ≡ r)
    → ((j : ℕ) (d : X) → j < k → rank (get_or xs j d) < r) → ((d : X) → k < length xs → r ≤ rank (get_or xs k d))
    → ((x : X) → slice_get xs k ≡ Some x → q x ≡ false) → position_or_len q xs ≡ length xs
none_sought rank q r low high k [] rising only before after not_here = refl
none_sought rank q r low high zero (x ∷ xs) rising only before after not_here =
    let least = after x (omega arith) in
    let rest = none_above rank q r (rank x + 1) high xs rising.1 only (omega arith) in
    rw (not_here x refl) (omega arith)
none_sought rank q r low high (suc k) (x ∷ xs) rising only before after not_here =
    let less = before zero x (omega arith) in
    let is : q x ≡ false = false_from_ne_true (q x) (λ passes. let same = only x passes in absurd (omega arith)) in
    let rest = none_sought rank q r (rank x + 1) high k xs rising.1 only (λ j d h. before (suc j) d (omega arith)) (λ d h. after d (omega arith)) not_here in
    rw is (omega arith)

-- ---- what a search gives

-- the item at the place passes
pub found : {X : Type 0} (rank : X → ℕ) (q : X → Bool) (r high k : ℕ) (x : X) (xs : List X) → Rising rank 0 xs high → ((y : X) → q y ≡ true → rank y ≡ r)
    → k < length xs → x ≡ get_or xs k x → q x ≡ true → Some k ≡ position q xs
found rank q r high k x xs rising only inside item passes =
    let place = rising-position rank q 0 high k x xs rising (item_at xs k x inside item) passes (λ y h. only y h ∙ sym (only x passes)) in
    rw (place, lt-ltb k (length xs) inside) refl

none_passes : {X : Type 0} (rank : X → ℕ) (q : X → Bool) (r high k : ℕ) (xs : List X) → Rising rank 0 xs high → ((y : X) → q y ≡ true → rank y ≡ r)
    → IsPlaceOf rank r xs k → ((y : X) → slice_get xs k ≡ Some y → q y ≡ false) → None ≡ position q xs
none_passes rank q r high k xs rising only point not_here =
    let none = none_sought rank q r 0 high k xs rising only
    (λ j d h. ltb-true (rank (get_or xs j d)) r (point.0 j d (omega arith) h)) (λ d h. ltb-false (rank (get_or xs k d)) r (point.1 k d (omega arith) h)) not_here in
    rw (none, le-ltb (length xs) (length xs) (omega arith)) refl

-- the item at the place does not pass
pub missed : {X : Type 0} (rank : X → ℕ) (q : X → Bool) (r high k : ℕ) (x : X) (xs : List X) → Rising rank 0 xs high → ((y : X) → q y ≡ true → rank y ≡ r)
    → IsPlaceOf rank r xs k → k < length xs → x ≡ get_or xs k x → q x ≡ false → None ≡ position q xs
missed rank q r high k x xs rising only point inside item fails =
    none_passes rank q r high k xs rising only point
    (λ y at. ap q (sym (same_Some x y (sym (item_at xs k x inside item) ∙ at))) ∙ fails)

no_item : {X : Type 0} (xs : List X) (k : ℕ) (y : X) → length xs ≤ k → slice_get xs k ≡ Some y → ⊥
no_item [] k y h at = none-some y at
no_item (x ∷ xs) zero y h at = absurd (omega arith)
no_item (x ∷ xs) (suc k) y h at = no_item xs k y (omega arith) at

-- the place is the list's end
pub ended : {X : Type 0} (rank : X → ℕ) (q : X → Bool) (r high k : ℕ) (xs : List X) → Rising rank 0 xs high → ((y : X) → q y ≡ true → rank y ≡ r)
    → IsPlaceOf rank r xs k → length xs ≤ k → None ≡ position q xs
ended rank q r high k xs rising only point last =
    none_passes rank q r high k xs rising only point (λ y at. absurd (no_item xs k y last at))
