-- Values of the standard units, and walks of operations, worked out by hand.
use Rattle.std.proofs.Common.{◌≡◌, ◌∷◌, [], ℕ, List, Some, None, length, slice_index_or, refl}
use Rattle.std.specs.Prelude.{codes}
use Rattle.tta_ops.specs.declared.error.OpsError.TheVariants.{Twice, Reserved}
use Rattle.tta_ops.specs.Arithmetic.{arith, divide}
use Rattle.tta_ops.specs.Bits.{logic, shift}
use Rattle.tta_ops.specs.Comparison.{compare}
use Rattle.tta_ops.specs.Row.{Row}
use Rattle.tta_ops.specs.Offers.{rows_from}
use Rattle.tta_ops.specs.Reserved.{reserved_words, is_reserved}
use Rattle.tta_ops.specs.Refusal.{first_refusal}

sub_wraps : (arith 1).value 3 5 ≡ 4294967294
sub_wraps = refl

mul_is_low_half : (arith 2).value 3735928559 305419896 ≡ 1445054984
mul_is_low_half = refl

mulhu_is_high_half : (arith 3).value 4294967295 4294967295 ≡ 4294967294
mulhu_is_high_half = refl

neg_of_zero : (arith 4).value 7 0 ≡ 0
neg_of_zero = refl

neg_ignores_a : (arith 4).value 7 1 ≡ 4294967295
neg_ignores_a = refl

xor_bits : (logic 2).value 12 10 ≡ 6
xor_bits = refl

not_of_zero : (logic 3).value 7 0 ≡ 4294967295
not_of_zero = refl

shl_reduces_its_amount : (shift 0).value 3 33 ≡ (shift 0).value 3 1
shl_reduces_its_amount = refl

shl_drops_upper_bits : (shift 0).value 2147483649 1 ≡ 2
shl_drops_upper_bits = refl

shr_copies_the_top_bit : (shift 1).value 2147483648 31 ≡ 4294967295
shr_copies_the_top_bit = refl

shr_by_nothing : (shift 1).value 3735928559 32 ≡ 3735928559
shr_by_nothing = refl

shr_of_a_positive_word : (shift 1).value 2147483647 30 ≡ 1
shr_of_a_positive_word = refl

shru_brings_zeros_in : (shift 2).value 2147483648 31 ≡ 1
shru_brings_zeros_in = refl

minus_one_is_below_zero : (compare 2).value 4294967295 0 ≡ 1
minus_one_is_below_zero = refl

the_least_word_is_below_minus_one : (compare 2).value 2147483648 4294967295 ≡ 1
the_least_word_is_below_minus_one = refl

gt_turns_lt_round : (compare 3).value 0 4294967295 ≡ 1
gt_turns_lt_round = refl

the_greatest_word_is_not_below_zero : (compare 4).value 4294967295 0 ≡ 0
the_greatest_word_is_not_below_zero = refl

divu_by_zero : (divide 0).value 7 0 ≡ 4294967295
divu_by_zero = refl

divu_is_unsigned : (divide 0).value 4294967295 2 ≡ 2147483647
divu_is_unsigned = refl

remu_by_zero : (divide 1).value 7 0 ≡ 7
remu_by_zero = refl

eighteen_words_are_reserved : length reserved_words ≡ 18
eighteen_words_are_reserved = refl

-- units here are the lists of their names
offered : List (List (List ℕ)) → List Row
offered units = rows_from length nth (λ _ _. 2) 0 units
  where
    nth : List (List ℕ) → ℕ → List ℕ
    nth names i = slice_index_or names i []

a_unit_twice : first_refusal [] (offered ((codes "add" ∷ codes "sub" ∷ []) ∷ (codes "add" ∷ codes "sub" ∷ []) ∷ [])) ≡ Some (Twice 1 0)
unfolding offered is_reserved
a_unit_twice = refl

a_name_of_an_earlier_unit : first_refusal [] (offered ((codes "x" ∷ []) ∷ (codes "add" ∷ []) ∷ (codes "sub" ∷ codes "x" ∷ []) ∷ [])) ≡ Some (Twice 2 1)
unfolding offered is_reserved
a_name_of_an_earlier_unit = refl

a_reserved_name : first_refusal [] (offered ((codes "add" ∷ codes "out" ∷ codes "add" ∷ []) ∷ [])) ≡ Some (Reserved 0 1)
unfolding offered is_reserved
a_reserved_name = refl

nothing_to_refuse : first_refusal [] (offered ((codes "add" ∷ []) ∷ [] ∷ (codes "mul" ∷ []) ∷ [])) ≡ None
unfolding offered is_reserved
nothing_to_refuse = refl
