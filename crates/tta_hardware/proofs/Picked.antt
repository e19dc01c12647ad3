-- What a code picks from a list of words.
use Rattle.std.proofs.Common.{◌≡◌, ℕ, zero, suc, ◌+◌, ◌==◌, Bool, true, false, List, [], ◌∷◌, map, get_or, slice_get, Some, ap, ◌∙◌, arith}
use Rattle.std.specs.Prelude.{if◌then◌else◌}
use Rattle.std.specs.List.{list_any, position_or_len}
use Rattle.std.proofs.lemmas.Option.{none-some, same_Some, slice_get-get_or}
use Rattle.std.proofs.lemmas.Bool.{eq-eqb, ne_eqb}
use Rattle.std.proofs.lemmas.List.Sums.{passes_at_first}
use Rattle.tta_hardware.specs.Cited.{Units, Expr, bit, is_set, value}
use Rattle.tta_image.proofs.Places.{place_inside}
use Rattle.tta_hardware.specs.Chains.{pick_from}

-- an element that passes, where the first one does
pub first_at : {A : Type 0} (q : A → Bool) (xs : List A) (d : A) → list_any q xs ≡ true
    → (x : A) × ((slice_get xs (position_or_len q xs) ≡ Some x) × (q x ≡ true))
first_at q xs d some =
    let inside = place_inside q xs some in
    (get_or xs (position_or_len q xs) d, (slice_get-get_or xs (position_or_len q xs) d inside, passes_at_first q xs d inside))

-- the element of a list that another is made of
pub at_map : {A B : Type 0} (f : A → B) (xs : List A) (k : ℕ) (x : A) → slice_get xs k ≡ Some x → slice_get (map f xs) k ≡ Some (f x)
at_map f [] k x at = absurd (none-some x at)
at_map f (y ∷ xs) zero x at = ap (λ z. Some (f z)) (same_Some y x at)
at_map f (y ∷ xs) (suc k) x at = at_map f xs k x at

module _ {N M : Type 0} (u : Units) (ms : M → List ℕ) (env : N → ℕ) (width : ℕ) (code : Expr N M) (other : Expr N M) where
  -- the word at the place that the code tells
  pub picked : (ws : List (Expr N M)) (k j : ℕ) (w : Expr N M) → value u ms env code ≡ k + j → slice_get ws j ≡ Some w
      → value u ms env (pick_from width code k ws other) ≡ value u ms env w
  picked [] k j w is at = absurd (none-some w at)
  picked (x ∷ ws) k zero w is at =
      let here : (value u ms env code == k) ≡ true = eq-eqb (value u ms env code) k (omega (arith, is)) in
      ap (λ b. if is_set (bit b) then value u ms env x else value u ms env (pick_from width code (k + 1) ws other)) here
      ∙ ap (value u ms env) (same_Some x w at)
  picked (x ∷ ws) k (suc j) w is at =
      let here : (value u ms env code == k) ≡ false = ne_eqb (value u ms env code) k (λ same. omega (arith, is, same)) in
      ap (λ b. if is_set (bit b) then value u ms env x else value u ms env (pick_from width code (k + 1) ws other)) here
      ∙ picked ws (k + 1) j w (omega (arith, is)) at
