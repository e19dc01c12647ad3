-- The costs of chains.
use Rattle.std.proofs.Common.{◌≡◌, ℕ, ◌+◌, ◌-◌, ◌≤◌, List, [], ◌∷◌, ◌++◌, map, length, take, drop, refl, sym, ap, ◌∙◌, arith}
use Rattle.std.specs.List.{flat_map, enumerate_from}
use Rattle.std.proofs.lemmas.List.Concat.{flat_map-cons}
use Rattle.tta_cost.specs.Cited.{Dest, Machine, Expression, buses_to, hits, any_of, first_of, Cost, beside, chosen}
use Rattle.tta_cost.proofs.Listed.{after_one}
use Rattle.tta_hardware.specs.Wires.{reached}
use Rattle.tta_cost.specs.Depths.{cost_of}
use Rattle.tta_cost.specs.Chains.{bits_of, first_cost}

module _ (t : List ℕ) (m : Machine) where
  -- the cost of a chain of choices
  pub first_is : (xs : List (Expression × Expression)) (other : Expression)
      → cost_of t m (first_of xs other) ≡ first_cost t m xs (cost_of t m other)
  first_is [] other = refl
  first_is (x ∷ xs) other =
      ap (λ (r : Cost). chosen (bits_of m x.1) (beside (cost_of t m x.0) (beside (cost_of t m x.1) r))) (first_is xs other)

  -- choices and more choices
  pub first_append : (xs ys : List (Expression × Expression)) (other : Cost)
      → first_cost t m (xs ++ ys) other ≡ first_cost t m xs (first_cost t m ys other)
  first_append [] ys other = refl
  first_append (x ∷ xs) ys other =
      ap (λ (r : Cost). chosen (bits_of m x.1) (beside (cost_of t m x.0) (beside (cost_of t m x.1) r))) (first_append xs ys other)

  -- the choices of the first number, and those of the rest
  pub first_more : {A : Type 0} (F : ℕ → List (Expression × Expression)) (k : ℕ) (xs : List A) (other : Cost) → 1 ≤ length xs
      → first_cost t m (F k) (first_cost t m (flat_map (λ (o : ℕ × A). F o.0) (enumerate_from (k + 1) (take (length xs - 1) (drop 1 xs)))) other)
      ≡ first_cost t m (flat_map (λ (o : ℕ × A). F o.0) (enumerate_from k xs)) other
  first_more F k [] other some = absurd (omega (arith, some))
  first_more {A} F k (x ∷ xs) other some =
      ap (λ (l : List A). first_cost t m (F k) (first_cost t m (flat_map (λ (o : ℕ × A). F o.0) (enumerate_from (k + 1) l)) other)) (after_one xs)
      ∙ sym (first_append (F k) (flat_map (λ (o : ℕ × A). F o.0) (enumerate_from (k + 1) xs)) other)
      ∙ ap (λ (l : List (Expression × Expression)). first_cost t m l other)
      (sym (flat_map-cons (λ (o : ℕ × A). F o.0) (k, x) (enumerate_from (k + 1) xs)))

-- whether one of some tests holds is one bit
any_wide : (m : Machine) (xs : List Expression) → bits_of m (any_of xs) ≡ 1
any_wide m [] = refl
any_wide m (x ∷ xs) = refl

pub reached_wide : (m : Machine) (dst : Dest) → bits_of m (reached m dst) ≡ 1
reached_wide m dst = any_wide m (map (hits m dst) (buses_to m dst))
