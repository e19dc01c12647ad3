-- Expressions cost the same where all signals that they read have the same depths.
use Rattle.std.proofs.Common.{◌≡◌, ℕ, ◌<◌, true, ◌&&◌, refl, ap, ◌∙◌}
use Rattle.std.proofs.lemmas.Bool.{and_parts, ltb-true}
use Rattle.tta_circuit.specs.Circuit.{Expr, Const, Signal, Slice, Join, Select, Not, Both, Either, Equal, Below, Plus, Minus, Times, BitAnd, BitOr, BitXor, Left, Right, Read, Apply}
use Rattle.tta_circuit.specs.Order.{reads_below}
use Rattle.tta_circuit.specs.Widths.{width_of}
use Rattle.tta_measure.specs.declared.cost.Cost.{Cost}
use Rattle.tta_measure.specs.Cost.{at, beside, behind, chosen}
use Rattle.tta_measure.specs.Table.{gate_depth, equal_depth, sum_depth, shift_depth, product_depth, read_depth}
use Rattle.tta_measure.specs.Measure.{cost}

module _ {N M : Type 0} (signal : N → ℕ) (memory : M → ℕ) (applied : ℕ → ℕ) (rank : N → ℕ) (a b : N → ℕ) (k : ℕ)
    (alike : (n : N) → rank n < k → a n ≡ b n) where
  abbrev first : Expr N M → Cost
  first e = cost signal memory a applied e

  abbrev second : Expr N M → Cost
  second e = cost signal memory b applied e

  pair : (x y : Expr N M) → (reads_below rank k x && reads_below rank k y) ≡ true
      → (reads_below rank k x ≡ true → first x ≡ second x) → (reads_below rank k y ≡ true → first y ≡ second y)
      → beside (first x) (first y) ≡ beside (second x) (second y)
  pair x y h of_x of_y =
      let p = and_parts (reads_below rank k x) (reads_below rank k y) h in
      ap (λ (c : Cost). beside c (first y)) (of_x p.0) ∙ ap (beside (second x)) (of_y p.1)

  pub cost_alike : (e : Expr N M) → reads_below rank k e ≡ true → cost signal memory a applied e ≡ cost signal memory b applied e
  cost_alike (Const width word) h = refl
  cost_alike (Signal n) h = ap at (alike n (ltb-true (rank n) k h))
  cost_alike (Slice low width e) h = cost_alike e h
  cost_alike (Join width high low) h = pair high low h (cost_alike high) (cost_alike low)
  cost_alike (Select test on off) h =
      let p = and_parts (reads_below rank k test) (reads_below rank k on && reads_below rank k off) h in
      ap (λ (c : Cost). chosen (width_of signal memory on) (beside c (beside (first on) (first off)))) (cost_alike test p.0)
      ∙ ap (λ (c : Cost). chosen (width_of signal memory on) (beside (second test) c))
      (pair on off p.1 (cost_alike on) (cost_alike off))
  cost_alike (Not e) h = cost_alike e h
  cost_alike (Both x y) h = ap (behind gate_depth) (pair x y h (cost_alike x) (cost_alike y))
  cost_alike (Either x y) h = ap (behind gate_depth) (pair x y h (cost_alike x) (cost_alike y))
  cost_alike (Equal x y) h = ap (behind equal_depth) (pair x y h (cost_alike x) (cost_alike y))
  cost_alike (Below x y) h = ap (behind sum_depth) (pair x y h (cost_alike x) (cost_alike y))
  cost_alike (Plus width x y) h = ap (behind sum_depth) (pair x y h (cost_alike x) (cost_alike y))
  cost_alike (Minus width x y) h = ap (behind sum_depth) (pair x y h (cost_alike x) (cost_alike y))
  cost_alike (Times width x y) h = ap (behind product_depth) (pair x y h (cost_alike x) (cost_alike y))
  cost_alike (BitAnd x y) h = ap (behind gate_depth) (pair x y h (cost_alike x) (cost_alike y))
  cost_alike (BitOr x y) h = ap (behind gate_depth) (pair x y h (cost_alike x) (cost_alike y))
  cost_alike (BitXor x y) h = ap (behind gate_depth) (pair x y h (cost_alike x) (cost_alike y))
  cost_alike (Left width x by) h = ap (behind shift_depth) (pair x by h (cost_alike x) (cost_alike by))
  cost_alike (Right x by) h = ap (behind shift_depth) (pair x by h (cost_alike x) (cost_alike by))
  cost_alike (Read m address) h = ap (behind read_depth) (cost_alike address h)
  cost_alike (Apply op x y) h = ap (behind (applied op)) (pair x y h (cost_alike x) (cost_alike y))
