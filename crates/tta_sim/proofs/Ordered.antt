-- Elements of which none is the same as one before it, one after another.
use Rattle.std.proofs.Common.{◌≡◌, ◌<◌, ◌≤◌, ◌+◌, ℕ, zero, suc, Bool, true, false, not, ◌&&◌, List, [], ◌∷◌, length, drop, get_or, refl, ap, ◌∙◌, arith}
use Rattle.std.specs.List.{list_any}
use Rattle.std.proofs.lemmas.List.{drop_more}
use Rattle.tta_sim.specs.Cited.{are_different}

module _ {A : Type 0} (same : A → A → Bool) (xs : List A) (i : ℕ) (d : A) (within : i < length xs) where
  parts : are_different same (drop i xs) ≡ (not (list_any (same (get_or xs i d)) (drop (i + 1) xs)) && are_different same (drop (i + 1) xs))
  parts = ap (are_different same) (drop_more xs i d within)

  -- an element that none after it is the same as
  pub different_more : list_any (same (get_or xs i d)) (drop (i + 1) xs) ≡ false → are_different same xs ≡ are_different same (drop i xs)
      → are_different same xs ≡ are_different same (drop (i + 1) xs)
  different_more none before = before ∙ parts ∙ ap (λ b. not b && are_different same (drop (i + 1) xs)) none

  -- one that another after it is the same as
  pub different_none : list_any (same (get_or xs i d)) (drop (i + 1) xs) ≡ true → are_different same xs ≡ are_different same (drop i xs)
      → are_different same xs ≡ false
  different_none some before = before ∙ parts ∙ ap (λ b. not b && are_different same (drop (i + 1) xs)) some

-- none is left
pub different_all : {A : Type 0} (same : A → A → Bool) (xs : List A) (i : ℕ) → length xs ≤ i → are_different same (drop i xs) ≡ true
different_all same [] zero past = refl
different_all same [] (suc i) past = refl
different_all same (x ∷ xs) zero past = absurd (omega (arith, past))
different_all same (x ∷ xs) (suc i) past = different_all same xs i (omega (arith, past))
