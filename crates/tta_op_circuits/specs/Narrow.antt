-- A long division from its first digit on as wires: five for each digit, of no more bits than they need. After so many digits the rest has
-- as many bits.
use Rattle.std.specs.Prelude.{ℕ, zero, suc, ◌+◌, ◌-◌, ◌==◌, if◌then◌else◌, List, [], ◌∷◌, ◌++◌}
use Rattle.tta_op_circuits.specs.Cited.{Expr, Const, Signal, Slice, Join, Select, Not, Below, Minus, Wire}
use Rattle.tta_op_circuits.specs.Dividing.{Cut, wire, with_zero}

module _ {N M : Type 0} where
  -- the rest with the next digit of the dividend, after so many digits: at first there is no rest
  abbrev pub brought_word : (done : ℕ) → (rest digits : Expr N M) → Expr N M
  brought_word done rest digits = if done == 0 then Slice 31 1 digits else Join 1 rest (Slice 31 1 digits)

  module _ (inner : ℕ → N) where
    -- The wires of one digit after so many, which have numbers from a first one on: the rest with the digit, whether that is less than
    -- the divisor, what it leaves, the new rest and the new digits.
    abbrev pub narrow_wires : (done first : ℕ) → (rest digits by : Expr N M) → List (Wire N M)
    narrow_wires done first rest digits by =
        wire (inner first) (done + 1) (brought_word done rest digits)
        ∷ wire (inner (first + 1)) 1 (Below (Join (done + 1) (Const (32 - done) 0) (Signal (inner first))) (with_zero by))
        ∷ wire (inner (first + 2)) (done + 1) (Minus (done + 1) (Signal (inner first)) (Slice 0 (done + 1) by))
        ∷ wire (inner (first + 3)) (done + 1) (Select (Signal (inner (first + 1))) (Signal (inner first)) (Signal (inner (first + 2))))
        ∷ wire (inner (first + 4)) 32 (Join 1 (Slice 0 31 digits) (Not (Signal (inner (first + 1)))))
        ∷ []

    -- so many digits more
    unfoldable pub narrow_cut : (count done first : ℕ) → (rest digits by : Expr N M) → Cut N M
    narrow_cut zero done first rest digits by = record { wires = []; rest = rest; digits = digits }
    narrow_cut (suc n) done first rest digits by =
        let later : Cut N M = narrow_cut n (done + 1) (first + 5) (Signal (inner (first + 3))) (Signal (inner (first + 4))) by in
        record { wires = narrow_wires done first rest digits by ++ later.wires; rest = later.rest; digits = later.digits }
