-- A long division as wires: five for each digit.
use Rattle.std.specs.Prelude.{ℕ, zero, suc, ◌+◌, List, [], ◌∷◌, ◌++◌}
use Rattle.tta_op_circuits.specs.Cited.{Expr, Const, Signal, Slice, Join, Select, Not, Below, Minus, Wire}

-- wires, and what they make of the rest and the digits of a division
pub record Cut (N M : Type 0) : Type 0 where
  pub wires : List (Wire N M)
  pub rest : Expr N M
  pub digits : Expr N M

module _ {N M : Type 0} where
  -- a word with a digit of 0 above it
  abbrev pub with_zero : Expr N M → Expr N M
  with_zero e = Join 32 (Const 1 0) e

  -- a wire of a name
  abbrev pub wire : N → (width : ℕ) → Expr N M → Wire N M
  wire name width word = record { name = name; width = width; word = word }

  module _ (inner : ℕ → N) where
    -- The wires of one digit, which have numbers from a first one on: the rest with the digit, whether that is less than the
    -- divisor, what it leaves, the new rest and the new digits.
    abbrev pub digit_wires : (first : ℕ) → (rest digits by : Expr N M) → List (Wire N M)
    digit_wires first rest digits by =
        wire (inner first) 33 (Join 1 rest (Slice 31 1 digits))
        ∷ wire (inner (first + 1)) 1 (Below (Signal (inner first)) (with_zero by))
        ∷ wire (inner (first + 2)) 33 (Minus 33 (Signal (inner first)) (with_zero by))
        ∷ wire (inner (first + 3)) 32
        (Select (Signal (inner (first + 1))) (Slice 0 32 (Signal (inner first))) (Slice 0 32 (Signal (inner (first + 2)))))
        ∷ wire (inner (first + 4)) 32 (Join 1 (Slice 0 31 digits) (Not (Signal (inner (first + 1)))))
        ∷ []

    -- so many digits, with wires that have numbers from a first one on
    unfoldable pub cut : (count first : ℕ) → (rest digits by : Expr N M) → Cut N M
    cut zero first rest digits by = record { wires = []; rest = rest; digits = digits }
    cut (suc n) first rest digits by =
        let later : Cut N M = cut n (first + 5) (Signal (inner (first + 3))) (Signal (inner (first + 4))) by in
        record { wires = digit_wires first rest digits by ++ later.wires; rest = later.rest; digits = later.digits }
