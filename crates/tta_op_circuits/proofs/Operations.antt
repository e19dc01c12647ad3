-- The circuits of the standard units make their operations.
use Rattle.std.proofs.Common.{◌≡◌, ℕ, ◌<◌, ◌*◌, ◌/◌, ◌%◌, ◌^◌, ◌==◌, Bool, true, false, nat_lt, List, refl, ap, ◌∙◌, arith}
use Rattle.std.specs.Prelude.{if◌then◌else◌, nat_eq}
use Rattle.tta_op_circuits.specs.Cited.{Units, Operation, logic, shift, compare, Const, Solves}
use Rattle.tta_ops.specs.Arithmetic as arithmetic
use Rattle.tta_op_circuits.specs.Narrow.{narrow_cut}
use Rattle.tta_op_circuits.specs.Worked.{is_in_order, Worked, Port, Makes, First, Second, Inner}
use Rattle.tta_op_circuits.specs.Operations.{a, b, division, arith_circuit, divide_circuit, logic_circuit, shift_circuit, compare_circuit}
use Rattle.tta_op_circuits.specs.Laws.{AreMade, divided, held}
use Rattle.tta_op_circuits.proofs.Narrow.{divided_at_once}
use Rattle.tta_op_circuits.proofs.Words.{as_truth, as_untruth, upper_half, all_turned, with_sign, shifted_is, low_bits, below_is}

-- an operation of a table of two parts
chosen : (c : Bool) (x y : Worked) (p q : Operation) → Makes x p.value → Makes y q.value
    → Makes (if c then x else y) (if c then p else q).value
chosen true x y p q one other = one
chosen false x y p q one other = other

sums : (i : ℕ) → Makes (arith_circuit i) (arithmetic.arith i).value
unfolding is_in_order
sums i =
    chosen (nat_eq i 0) _ _ _ _ (record { in_order = refl; word = λ u ms env x y solved. refl })
    (chosen (nat_eq i 1) _ _ _ _ (record { in_order = refl; word = λ u ms env x y solved. omega (arith, x, y) })
    (chosen (nat_eq i 2) _ _ _ _ (record { in_order = refl; word = λ u ms env x y solved. refl })
    (chosen (nat_eq i 3) _ _ _ _ (record {
      in_order = refl;
      word = λ u ms env x y solved. ap (λ t. t / 2 ^ 32 % 2 ^ 32) solved.0 ∙ upper_half (env First) (env Second) x y;
    })
    (chosen (nat_eq i 4) _ _ _ _ (record { in_order = refl; word = λ u ms env x y solved. omega (arith, x, y) })
    (record { in_order = refl; word = λ u ms env x y solved. refl })))))

divided_is : (u : Units) (ms : ⊥ → List ℕ) (env : Port → ℕ) → env First < 2 ^ 32 → env Second < 2 ^ 32
    → Solves u ms env division.wires → held u ms env division.rest division.digits ≡ divided (env First) (env Second)
divided_is u ms env x y solved = divided_at_once u ms env Inner (env First) (env Second) (Const 32 0) a b x y refl refl refl solved

divisions : (i : ℕ) → Makes (divide_circuit i) (arithmetic.divide i).value
unfolding is_in_order narrow_cut
divisions i =
    chosen (nat_eq i 0) _ _ _ _
    (record { in_order = refl; word = λ u ms env x y solved. ap (λ p. p.digits) (divided_is u ms env x y solved) })
    (chosen (nat_eq i 1) _ _ _ _
    (record { in_order = refl; word = λ u ms env x y solved. ap (λ p. p.rest) (divided_is u ms env x y solved) })
    (record { in_order = refl; word = λ u ms env x y solved. refl }))

bits : (i : ℕ) → Makes (logic_circuit i) (logic i).value
unfolding is_in_order
bits i =
    chosen (nat_eq i 0) _ _ _ _ (record { in_order = refl; word = λ u ms env x y solved. refl })
    (chosen (nat_eq i 1) _ _ _ _ (record { in_order = refl; word = λ u ms env x y solved. refl })
    (chosen (nat_eq i 2) _ _ _ _ (record { in_order = refl; word = λ u ms env x y solved. refl })
    (chosen (nat_eq i 3) _ _ _ _ (record { in_order = refl; word = λ u ms env x y solved. all_turned (env Second) y })
    (record { in_order = refl; word = λ u ms env x y solved. refl }))))

shifts : (i : ℕ) → Makes (shift_circuit i) (shift i).value
unfolding is_in_order
shifts i =
    chosen (nat_eq i 0) _ _ _ _
    (record { in_order = refl; word = λ u ms env x y solved. ap (λ n. env First * 2 ^ n % 2 ^ 32) (low_bits (env Second)) })
    (chosen (nat_eq i 1) _ _ _ _ (record {
      in_order = refl;
      word = λ u ms env x y solved.
          ap (λ t. t / 2 ^ 0 % 2 ^ 32) solved.0
          ∙ ap (λ n. with_sign (env First) / 2 ^ n / 2 ^ 0 % 2 ^ 32) (low_bits (env Second))
          ∙ shifted_is (env First) (env Second % 32) (omega arith) x;
    })
    (chosen (nat_eq i 2) _ _ _ _
    (record { in_order = refl; word = λ u ms env x y solved. ap (λ n. env First / 2 ^ n) (low_bits (env Second)) })
    (record { in_order = refl; word = λ u ms env x y solved. refl })))

comparisons : (i : ℕ) → Makes (compare_circuit i) (compare i).value
unfolding is_in_order
comparisons i =
    chosen (nat_eq i 0) _ _ _ _ (record { in_order = refl; word = λ u ms env x y solved. as_truth (env First == env Second) })
    (chosen (nat_eq i 1) _ _ _ _ (record { in_order = refl; word = λ u ms env x y solved. as_untruth (env First == env Second) })
    (chosen (nat_eq i 2) _ _ _ _ (record { in_order = refl; word = λ u ms env x y solved. below_is (env First) (env Second) x y })
    (chosen (nat_eq i 3) _ _ _ _ (record { in_order = refl; word = λ u ms env x y solved. below_is (env Second) (env First) y x })
    (chosen (nat_eq i 4) _ _ _ _ (record { in_order = refl; word = λ u ms env x y solved. as_truth (nat_lt (env First) (env Second)) })
    (chosen (nat_eq i 5) _ _ _ _ (record { in_order = refl; word = λ u ms env x y solved. as_truth (nat_lt (env Second) (env First)) })
    (record { in_order = refl; word = λ u ms env x y solved. refl }))))))

pub are_made : AreMade
are_made = record { sums = sums; divisions = divisions; bits = bits; shifts = shifts; comparisons = comparisons }
