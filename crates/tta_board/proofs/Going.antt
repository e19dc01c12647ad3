-- Which cores carry an instruction out.
use Rattle.std.proofs.Common.{◌≡◌, ℕ, zero, suc, ◌+◌, ◌<◌, Bool, true, false, not, ◌&&◌, ◌||◌, List, [], ◌∷◌, refl, sym, ap, ◌∙◌, arith}
use Rattle.std.specs.Prelude.{slice_get, if◌then◌else◌}
use Rattle.std.specs.Option.{option_map_or}
use Rattle.std.proofs.lemmas.Bool.{eq-eqb, ne_eqb}
use Rattle.tta_board.specs.Cited.{is_among, stand_once}

module _ {A : Type 0} (test : ℕ → A → Bool) where
  -- the places from a number on at which a test holds
  abbrev pub places_from : ℕ → List A → List ℕ
  places_from n [] = []
  places_from n (x ∷ xs) = if test n x then n ∷ places_from (suc n) xs else places_from (suc n) xs

  -- none of them is below it
  none_below : (n j : ℕ) (xs : List A) → j < n → is_among j (places_from n xs) ≡ false
  none_below n j [] less = refl
  none_below n j (x ∷ xs) less = by (test n x) (none_below (suc n) j xs (omega (arith, less))) where
    by : (b : Bool) → is_among j (places_from (suc n) xs) ≡ false
        → is_among j (if b then n ∷ places_from (suc n) xs else places_from (suc n) xs) ≡ false
    by true rest = ap (λ c. c || is_among j (places_from (suc n) xs)) (ne_eqb n j (λ e. omega (arith, e, less))) ∙ rest
    by false rest = rest

  pub places_apart : (n : ℕ) (xs : List A) → stand_once (places_from n xs) ≡ true
  places_apart n [] = refl
  places_apart n (x ∷ xs) = by (test n x) (places_apart (suc n) xs) where
    by : (b : Bool) → stand_once (places_from (suc n) xs) ≡ true
        → stand_once (if b then n ∷ places_from (suc n) xs else places_from (suc n) xs) ≡ true
    by true rest = ap (λ c. not c && stand_once (places_from (suc n) xs)) (none_below (suc n) n xs (omega arith)) ∙ rest
    by false rest = rest

  -- a place is among them where the test holds there
  places_at : (n j : ℕ) (xs : List A) → is_among (n + j) (places_from n xs) ≡ option_map_or (test (n + j)) (slice_get xs j) false
  places_at n j [] = refl
  places_at n zero (x ∷ xs) = by (test n x) refl where
    here : n + 0 ≡ n
    here = omega arith

    by : (b : Bool) → test n x ≡ b → is_among (n + 0) (if b then n ∷ places_from (suc n) xs else places_from (suc n) xs) ≡ test (n + 0) x
    by true is = ap (λ c. c || is_among (n + 0) (places_from (suc n) xs)) (eq-eqb n (n + 0) (sym here)) ∙ sym (ap (λ m. test m x) here ∙ is)
    by false is = none_below (suc n) (n + 0) xs (omega arith) ∙ sym (ap (λ m. test m x) here ∙ is)
  places_at n (suc j) (x ∷ xs) = by (test n x) (places_at (suc n) j xs) where
    on : suc n + j ≡ n + suc j
    on = omega arith

    by : (b : Bool) → is_among (suc n + j) (places_from (suc n) xs) ≡ option_map_or (test (suc n + j)) (slice_get xs j) false
        → is_among (n + suc j) (if b then n ∷ places_from (suc n) xs else places_from (suc n) xs) ≡ option_map_or (test (n + suc j))
        (slice_get xs j) false
    by true rest =
        ap (λ c. c || is_among (n + suc j) (places_from (suc n) xs)) (ne_eqb n (n + suc j) (λ e. omega (arith, e)))
        ∙ sym (ap (λ m. is_among m (places_from (suc n) xs)) on) ∙ rest ∙ ap (λ m. option_map_or (test m) (slice_get xs j) false) on
    by false rest = sym (ap (λ m. is_among m (places_from (suc n) xs)) on) ∙ rest
        ∙ ap (λ m. option_map_or (test m) (slice_get xs j) false) on

  pub among_places : (j : ℕ) (xs : List A) → is_among j (places_from 0 xs) ≡ option_map_or (test j) (slice_get xs j) false
  among_places j xs =
      let zero_on : 0 + j ≡ j = omega arith in
      sym (ap (λ m. is_among m (places_from 0 xs)) zero_on) ∙ places_at 0 j xs
      ∙ ap (λ m. option_map_or (test m) (slice_get xs j) false) zero_on
