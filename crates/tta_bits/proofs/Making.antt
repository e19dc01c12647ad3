-- The circuits of the unit make its operations.
use Rattle.std.proofs.Common.{◌≡◌, ℕ, ◌+◌, ◌*◌, ◌/◌, ◌%◌, ◌^◌, ◌-◌, Bool, true, false, refl, ap, ◌∙◌, arith}
use Rattle.std.specs.Prelude.{if◌then◌else◌, nat_eq, bit_or, count_ones, Option, IfSome}
use Rattle.tta_op_circuits.proofs.Words.{low_bits}
use Rattle.tta_bits.specs.Cited.{Operation, Slice, First, Second, Worked, Makes, is_in_order, b}
use Rattle.tta_bits.specs.Bits.{bits}
use Rattle.tta_bits.specs.Circuits.{bits_circuit, zeros_above, ones_from, reversed_onto}
use Rattle.tta_bits.proofs.Turning.{turned_is}
use Rattle.tta_bits.proofs.Counting.{zeros_is, ones_is, reversed_is, reversed_all}
use Rattle.tta_bits.proofs.Numbers.{byte_is, half_is, less_is}

-- a circuit that is handed in makes an operation
abbrev pub MakesIfAny : Option Worked → Operation → Type 0
MakesIfAny w o = IfSome w (λ circuit. Makes circuit o.value)

-- an operation of a table of two parts
chosen : (c : Bool) (x y : Option Worked) (p q : Operation) → MakesIfAny x p → MakesIfAny y q
    → MakesIfAny (if c then x else y) (if c then p else q)
chosen true x y p q one other = one
chosen false x y p q one other = other

pub circuits_make : (i : ℕ) → MakesIfAny (bits_circuit i) (bits i)
unfolding is_in_order zeros_above ones_from reversed_onto
circuits_make i =
    chosen (nat_eq i 0) _ _ _ _ (record {
      in_order = refl;
      word = λ u ms env x y solved.
          let once : env Second % 32 ≡ env Second % 32 % 32 = omega arith in
          ap (λ t. t / 2 ^ 32 % 2 ^ 32) solved.0
          ∙ ap (λ n. (env First * 2 ^ 32 + env First) * 2 ^ n % 2 ^ 64 / 2 ^ 32 % 2 ^ 32) (low_bits (env Second))
          ∙ turned_is (env First) (env Second % 32) (omega arith) x
          ∙ ap (λ n. bit_or (env First * 2 ^ n % 2 ^ 32) (env First / 2 ^ ((32 - n) % 32))) once;
    })
    (chosen (nat_eq i 1) _ _ _ _ (record {
      in_order = refl;
      word = λ u ms env x y solved. ap (λ t. 0 * 2 ^ 6 + t) (zeros_is u ms env 32 (omega arith) y) ∙ omega arith;
    })
    (chosen (nat_eq i 2) _ _ _ _ (record {
      in_order = refl;
      word = λ u ms env x y solved.
          let all : env Second / 2 ^ 0 ≡ env Second = omega arith in
          ap (λ t. 0 * 2 ^ 6 + t) (ones_is u ms env 32 0 (omega arith) (omega (arith, y)) ∙ ap count_ones all) ∙ omega arith;
    })
    (chosen (nat_eq i 3) _ _ _ _ (record {
      in_order = refl;
      word = λ u ms env x y solved. reversed_is u ms env 31 1 (Slice 0 1 b) ∙ reversed_all (env Second);
    })
    (chosen (nat_eq i 4) _ _ _ _ (record { in_order = refl; word = λ u ms env x y solved. byte_is (env Second) })
    (chosen (nat_eq i 5) _ _ _ _ (record { in_order = refl; word = λ u ms env x y solved. half_is (env Second) })
    (chosen (nat_eq i 6) _ _ _ _ tt
    (chosen (nat_eq i 7) _ _ _ _ tt
    (chosen (nat_eq i 8) _ _ _ _ (record {
      in_order = refl;
      word = λ u ms env x y solved. ap (λ c. if c then env Second else env First) (less_is (env Second) (env First) y x);
    })
    (chosen (nat_eq i 9) _ _ _ _ (record {
      in_order = refl;
      word = λ u ms env x y solved. ap (λ c. if c then env Second else env First) (less_is (env First) (env Second) x y);
    })
    tt)))))))))
