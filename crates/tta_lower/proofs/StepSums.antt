-- Sums over the register code of some steps are at most sums over the steps.
use Rattle.std.proofs.Common.{◌≡◌, ◌≤◌, ◌+◌, ◌-◌, ◌++◌, [], ℕ, zero, suc, Bool, Option, Some, None, true, false, sym, ap, ◌∙◌, arith, add-zero, append-nil}
use Rattle.std.specs.Prelude.{if◌then◌else◌}
use Rattle.std.specs.Option.{option_map_or}
use Rattle.std.specs.List.{sum_by}
use Rattle.std.proofs.lemmas.List.Sums.{sum_by-append}
use Rattle.tta_lower.specs.Cited.{Step, Program, step_at, RStep}
use Rattle.tta_lower.specs.Liveness.{Block, Homes}
use Rattle.tta_lower.specs.Layout.{steps_for, code_from, sets, sets_from}
use Rattle.tta_lower.specs.Counts.{over_steps, over_live}
use Rattle.tta_lower.proofs.Exits.{code_from-more}

module _ (p : Program) (home : Homes) where
  -- a sum over one step more
  pub over-more : (g : Step → ℕ) (owner at n : ℕ) (st : Step) → step_at p owner (at + n) ≡ Some st
      → over_steps p home g owner at (suc n) ≡ over_steps p home g owner at n + g st
  over-more g owner at zero st there =
      let here : step_at p owner at ≡ Some st = ap (step_at p owner) (sym (add-zero at)) ∙ there in
      rw here (omega arith)
  over-more g owner at (suc n) st there =
      let later : step_at p owner (at + 1 + n) ≡ Some st = ap (step_at p owner) (omega arith) ∙ there in
      let rest = over-more g owner (at + 1) n st later in
      omega (arith, rest)

  -- a sum over register code is at most the sum over its steps
  code-sum : (f : RStep → ℕ) (g : Step → ℕ) (owner at n : ℕ) → ((s : Step) → sum_by f (steps_for p home owner s) ≤ g s)
      → sum_by f (code_from p home owner at n) ≤ over_steps p home g owner at n
  code-sum f g owner at zero le = omega arith
  code-sum f g owner at (suc n) le =
      let rest = code-sum f g owner (at + 1) n le in
      let one = by (step_at p owner at) in
      rw (sum_by-append f (option_map_or (steps_for p home owner) (step_at p owner at) []) (code_from p home owner (at + 1) n)) (omega (arith, rest, one)) where
        by : (o : Option Step) → sum_by f (option_map_or (steps_for p home owner) o []) ≤ option_map_or g o 0
        by None = omega arith
        by (Some s) = le s

  -- a block's steps and something more that its last step allows
  pub block-sum : (f : RStep → ℕ) (g : Step → ℕ) (extra : ℕ) (b : Block) (st : Step) → b.first ≤ b.last → step_at p b.owner b.last ≡ Some st
      → ((s : Step) → sum_by f (steps_for p home b.owner s) ≤ g s) → sum_by f (steps_for p home b.owner st) + extra ≤ g st
      → sum_by f (code_from p home b.owner b.first (b.last + 1 - b.first)) + extra ≤ over_steps p home g b.owner b.first (b.last + 1 - b.first)
  block-sum f g extra b st rises there le last =
      let n = b.last - b.first in
      let e : b.last + 1 - b.first ≡ suc n = omega (arith, rises) in
      let l : b.first + n ≡ b.last = omega (arith, rises) in
      let there_n : step_at p b.owner (b.first + n) ≡ Some st = ap (step_at p b.owner) l ∙ there in
      let inner = code-sum f g b.owner b.first n le in
      let nil = ap (sum_by f) (append-nil (steps_for p home b.owner st)) in
      let split = sum_by-append f (code_from p home b.owner b.first n) (steps_for p home b.owner st ++ []) in
      rw (e, code_from-more p home b.owner b.first n st there_n, split, over-more g b.owner b.first n st there_n) (omega (arith, inner, last, nil))

  -- an entry block's
  pub entry-sum : (f : RStep → ℕ) (h : ℕ → ℕ) (live : ℕ → Bool) (owner x n : ℕ) → ((y : ℕ) → sum_by f (sets p home owner y) ≤ h y)
      → sum_by f (sets_from p home live owner x n) ≤ over_live p home live h x n
  entry-sum f h live owner x zero le = omega arith
  entry-sum f h live owner x (suc n) le =
      let rest = entry-sum f h live owner (x + 1) n le in
      let one = by (live x) in
      rw (sum_by-append f (if live x then sets p home owner x else []) (sets_from p home live owner (x + 1) n)) (omega (arith, rest, one)) where
        by : (b : Bool) → sum_by f (if b then sets p home owner x else []) ≤ (if b then h x else 0)
        by true = le x
        by false = omega arith
