-- What tests say: one made of two or more, and one for something that may be missing.
use Rattle.std.proofs.Common.{◌≡◌, Bool, true, false, Option, Some, None, refl, ℕ, arith, ◌<◌, zero, suc, min, max, sym}
use Rattle.std.specs.Prelude.{◌&&◌, ◌||◌, is_some, ◌==◌, is_none}
use Rattle.std.specs.Option.{option_or}
use Rattle.std.proofs.lemmas.Bool.{and_parts, and_from, eq-eqb}
use Rattle.std.proofs.lemmas.Option.{same_Some}
use Rattle.std.proofs.lemmas.Bool.Decides.{nat_tests}

-- both of two tests that hold together
pub and_left : (a b : Bool) → (a && b) ≡ true → a ≡ true
and_left a b e = (and_parts a b e).0

pub and_right : (a b : Bool) → (a && b) ≡ true → b ≡ true
and_right a b e = (and_parts a b e).1

-- two tests hold where two others do from which they follow
pub and_map : {a b c d : Bool} → (a ≡ true → c ≡ true) → (b ≡ true → d ≡ true) → (a && b) ≡ true → (c && d) ≡ true
and_map {a} {b} {c} {d} left right h = and_from c d (left (and_left a b h)) (right (and_right a b h))

-- of four tests, the two in the middle change places
pub or_swap : (a b c d : Bool) → ((a || b) || (c || d)) ≡ ((a || c) || (b || d))
or_swap true b c d = refl
or_swap false true true d = refl
or_swap false true false d = refl
or_swap false false c d = refl

-- what stands beside each of two tests stands beside either
pub or_either : (a w b c : Bool) → ((a || (w && b)) || (w && c)) ≡ (a || (w && (b || c)))
or_either true w b c = refl
or_either false true b c = refl
or_either false false b c = refl

-- nothing is there where the test for something fails
pub none_from_is_some : {A : Type 0} (o : Option A) → is_some o ≡ false → o ≡ None
none_from_is_some None e = refl
none_from_is_some (Some x) e = absurd cc

-- neither is there where the first that is there is none
pub option_or-none : {A : Type 0} (o p : Option A) → option_or o p ≡ None → (o ≡ None) × (p ≡ None)
option_or-none None p e = (refl, e)
option_or-none (Some x) p e = cc

-- what is there twice is the same
pub some_same : {A : Type 0} {x y : A} → Some x ≡ Some y → x ≡ y
some_same {A} {x} {y} e = same_Some x y e

pub eq_same : (n : ℕ) → (n == n) ≡ true
eq_same n = eq-eqb n n refl

-- such a test does not depend on the order of the two
pub same_back : (x y : ℕ) → (x == y) ≡ (y == x)
same_back x y = grind (arith, nat_tests)

pub false_true : (b : Bool) → b ≡ true → b ≡ false → ⊥
false_true b e f = cc

-- the test of a bit of both of two numbers, and of either
pub both_bits : (x y : ℕ) → x < 2 → y < 2 → (min x y == 1) ≡ (x == 1 && y == 1)
both_bits zero zero hx hy = refl
both_bits zero (suc zero) hx hy = refl
both_bits (suc zero) zero hx hy = refl
both_bits (suc zero) (suc zero) hx hy = refl
both_bits (suc (suc x)) y hx hy = absurd (omega arith)
both_bits x (suc (suc y)) hx hy = absurd (omega arith)

pub either_bit : (x y : ℕ) → x < 2 → y < 2 → (max x y == 1) ≡ (x == 1 || y == 1)
either_bit zero zero hx hy = refl
either_bit zero (suc zero) hx hy = refl
either_bit (suc zero) zero hx hy = refl
either_bit (suc zero) (suc zero) hx hy = refl
either_bit (suc (suc x)) y hx hy = absurd (omega arith)
either_bit x (suc (suc y)) hx hy = absurd (omega arith)

pub same_bool : (a b : Bool) → (a ≡ true → b ≡ true) → (b ≡ true → a ≡ true) → a ≡ b
same_bool true b to from = sym (to refl)
same_bool false true to from = from refl
same_bool false false to from = refl

pub offered : (o : Option ℕ) → is_none o ≡ false → (op : ℕ) × (o ≡ Some op)
offered None e = cc
offered (Some op) e = (op, refl)

pub equal_is : (a b : ℕ) → (a == b) ≡ true → a ≡ b
equal_is a b e = grind (arith, nat_tests, e)
