-- A circuit with other names is worth the same.
use Rattle.std.proofs.Common.{◌≡◌, ℕ, ◌+◌, ◌*◌, ◌/◌, ◌%◌, ◌^◌, ◌-◌, ◌==◌, not, ◌&&◌, ◌||◌, nat_lt, List, [], ◌∷◌, refl, ap, ap₂, ◌∙◌}
use Rattle.std.specs.Prelude.{if◌then◌else◌, slice_index, bit_and, bit_or, bit_xor}
use Rattle.tta_op_circuits.specs.Cited.{Units, Expr, Const, Signal, Slice, Join, Select, Not, Both, Either, Equal, Below, Plus, Minus, Times, BitAnd, BitOr, BitXor, Left, Right, Read, Apply, Wire, bit, is_set, value, Solves}
use Rattle.tta_op_circuits.specs.Renamed.{renamed, wires_renamed}
use Rattle.tta_op_circuits.specs.Laws.{MakesAnywhere}

module _ {N M N' M' : Type 0} (f : N → N') (g : M → M') (u : Units) (ms : M' → List ℕ) (env : N' → ℕ) where
  abbrev there : Expr N M → ℕ
  there e = value u ms env (renamed f g e)

  abbrev here : Expr N M → ℕ
  here e = value u (λ m. ms (g m)) (λ n. env (f n)) e

  pub value_renamed : (e : Expr N M) → there e ≡ here e
  value_renamed (Const width word) = refl
  value_renamed (Signal n) = refl
  value_renamed (Slice low width e) = ap (λ x. x / 2 ^ low % 2 ^ width) (value_renamed e)
  value_renamed (Join width a b) = ap₂ (λ (x y : ℕ). x * 2 ^ width + y) (value_renamed a) (value_renamed b)
  value_renamed (Select t a b) =
      ap (λ x. if is_set x then there a else there b) (value_renamed t)
      ∙ ap₂ (λ (x y : ℕ). if is_set (here t) then x else y) (value_renamed a) (value_renamed b)
  value_renamed (Not e) = ap (λ x. bit (not (is_set x))) (value_renamed e)
  value_renamed (Both a b) = ap₂ (λ (x y : ℕ). bit (is_set x && is_set y)) (value_renamed a) (value_renamed b)
  value_renamed (Either a b) = ap₂ (λ (x y : ℕ). bit (is_set x || is_set y)) (value_renamed a) (value_renamed b)
  value_renamed (Equal a b) = ap₂ (λ (x y : ℕ). bit (x == y)) (value_renamed a) (value_renamed b)
  value_renamed (Below a b) = ap₂ (λ (x y : ℕ). bit (nat_lt x y)) (value_renamed a) (value_renamed b)
  value_renamed (Plus w a b) = ap₂ (λ (x y : ℕ). (x + y) % 2 ^ w) (value_renamed a) (value_renamed b)
  value_renamed (Minus w a b) = ap₂ (λ (x y : ℕ). (2 ^ w + x - y) % 2 ^ w) (value_renamed a) (value_renamed b)
  value_renamed (Times w a b) = ap₂ (λ (x y : ℕ). x * y % 2 ^ w) (value_renamed a) (value_renamed b)
  value_renamed (BitAnd a b) = ap₂ bit_and (value_renamed a) (value_renamed b)
  value_renamed (BitOr a b) = ap₂ bit_or (value_renamed a) (value_renamed b)
  value_renamed (BitXor a b) = ap₂ bit_xor (value_renamed a) (value_renamed b)
  value_renamed (Left w a b) = ap₂ (λ (x y : ℕ). x * 2 ^ y % 2 ^ w) (value_renamed a) (value_renamed b)
  value_renamed (Right a b) = ap₂ (λ (x y : ℕ). x / 2 ^ y) (value_renamed a) (value_renamed b)
  value_renamed (Read m e) = ap (λ x. slice_index (ms (g m)) x) (value_renamed e)
  value_renamed (Apply op a b) = ap₂ (λ (x y : ℕ). u.value op x y) (value_renamed a) (value_renamed b)

  pub solves_renamed : (ws : List (Wire N M)) → Solves u ms env (wires_renamed f g ws)
      → Solves u (λ m. ms (g m)) (λ n. env (f n)) ws
  solves_renamed [] solved = tt
  solves_renamed (w ∷ ws) solved = (solved.0 ∙ value_renamed w.word, solves_renamed ws solved.1)

pub makes_anywhere : (N M : Type 0) → MakesAnywhere N M
makes_anywhere N M w op makes f g u ms env a b solved =
    value_renamed f g u ms env w.word
    ∙ makes.word u (λ m. ms (g m)) (λ n. env (f n)) a b (solves_renamed f g u ms env w.wires solved)
