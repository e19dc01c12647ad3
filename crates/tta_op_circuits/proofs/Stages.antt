-- The wires of a division make its digits.
use Rattle.std.proofs.Common.{◌≡◌, ℕ, zero, suc, ◌<◌, ◌≤◌, ◌+◌, ◌*◌, ◌/◌, ◌%◌, ◌^◌, ◌-◌, Bool, true, false, not, nat_lt, List, refl, sym, ap, ◌∙◌, subst, arith}
use Rattle.std.specs.Prelude.{if◌then◌else◌}
use Rattle.std.proofs.lemmas.Bool.{ltb-false}
use Rattle.std.proofs.lemmas.Nat.{pow_pos, pow-add, mul-add-lt, mul-le}
use Rattle.tta_op_circuits.specs.Cited.{Units, Expr, Signal, bit, is_set, value, Solves}
use Rattle.tta_op_circuits.specs.Division.{Partial, begun, brought, rest_of, with_digit, with_digits}
use Rattle.tta_op_circuits.specs.Dividing.{cut}
use Rattle.tta_op_circuits.specs.Laws.{held, StageDivides}
use Rattle.tta_op_circuits.proofs.Dividing.{IsPart, digit_keeps, begun_keeps}

-- the rest and the digits of a division are words
pub fits : (a b i k : ℕ) (p : Partial) → i + k ≡ 32 → a < 2 ^ 32 → IsPart a b i k p → (p.rest < 2 ^ 32) × (p.digits < 2 ^ 32)
fits a b i k p count word o =
    let all : k + i ≡ 32 = omega (arith, count) in
    let whole : 2 ^ k * 2 ^ i ≡ 2 ^ 32 = sym (pow-add 2 k i) ∙ ap (λ n. 2 ^ n) all in
    let some : 0 < 2 ^ i = pow_pos i in
    let once : o.upper * 1 ≤ o.upper * 2 ^ i = mul-le o.upper 1 o.upper (2 ^ i) (omega arith) some in
    let row : o.lower * 2 ^ k + o.q < 2 ^ k * 2 ^ i = mul-add-lt o.lower (2 ^ k) o.q (2 ^ i) o.lower_fits o.q_fits in
    (omega (arith, once, o.whole, word, o.parts), omega (arith, o.digits, row, whole))

-- the new rest, as wires make it
abbrev rest_wire : (c : Bool) → (more by : ℕ) → ℕ
rest_wire c more by = if is_set (bit c) then more / 2 ^ 0 % 2 ^ 32 else (2 ^ 33 + more - by) % 2 ^ 33 / 2 ^ 0 % 2 ^ 32

rest_made : (more by : ℕ) → by < 2 ^ 32 → more < 2 ^ 33 → rest_of (nat_lt more by) more by < 2 ^ 32
    → rest_wire (nat_lt more by) more by ≡ rest_of (nat_lt more by) more by
rest_made more by word small =
    elim (nat_lt more by) as (λ c. nat_lt more by ≡ c → rest_of c more by < 2 ^ 32 → rest_wire c more by ≡ rest_of c more by) [
      | true ↦ λ h new. omega (arith, new)
      | false ↦ λ h new. omega (arith, new, word, small, ltb-false more by h)
    ] refl

pub set_bit : (c : Bool) → is_set (bit c) ≡ c
set_bit true = refl
set_bit false = refl

module _ {N M : Type 0} (u : Units) (ms : M → List ℕ) (env : N → ℕ) (inner : ℕ → N) where
  pub digits_made : (count a b i k first : ℕ) (rest digits by : Expr N M) (p : Partial)
      → a < 2 ^ 32 → b < 2 ^ 32 → i + (count + k) ≡ 32 → value u ms env by ≡ b → held u ms env rest digits ≡ p → IsPart a b (count + i) k p
      → Solves u ms env (cut inner count first rest digits by).wires
      → held u ms env (cut inner count first rest digits by).rest (cut inner count first rest digits by).digits ≡ with_digits count b p
  unfolding cut with_digits
  digits_made zero a b i k first rest digits by p a_word b_word count by_is is o solved = is
  digits_made (suc n) a b i k first rest digits by p a_word b_word count by_is is o solved =
      digits_made n a b i (suc k) (first + 5) (Signal (inner (first + 3))) (Signal (inner (first + 4))) by (with_digit b p)
      a_word b_word (omega (arith, count)) by_is (λ j. record { rest = rest_is j; digits = digits_is j }) next solved.1.1.1.1.1
    where
      rest_was : value u ms env rest ≡ p.rest
      rest_was = ap (λ q. q.rest) is

      digits_was : value u ms env digits ≡ p.digits
      digits_was = ap (λ q. q.digits) is

      o' : IsPart a b (suc (n + i)) k p
      o' = let left : suc n + i ≡ suc (n + i) = omega arith in subst (λ x. IsPart a b x k p) left o

      next : IsPart a b (n + i) (suc k) (with_digit b p)
      next = digit_keeps a b (n + i) k p (omega (arith, count)) o'

      were : (p.rest < 2 ^ 32) × (p.digits < 2 ^ 32)
      were = fits a b (suc n + i) k p (omega (arith, count)) a_word o

      are : ((with_digit b p).rest < 2 ^ 32) × ((with_digit b p).digits < 2 ^ 32)
      are = fits a b (n + i) (suc k) (with_digit b p) (omega (arith, count)) a_word next

      more : env (inner first) ≡ brought p
      more =
          let top : p.rest * 2 ^ 1 + p.digits / 2 ^ 31 % 2 ^ 1 ≡ p.rest * 2 + p.digits / 2 ^ 31 = omega (arith, were.1) in
          solved.0 ∙ ap (λ x. x * 2 ^ 1 + value u ms env digits / 2 ^ 31 % 2 ^ 1) rest_was
          ∙ ap (λ x. p.rest * 2 ^ 1 + x / 2 ^ 31 % 2 ^ 1) digits_was ∙ top

      more_small : brought p < 2 ^ 33
      more_small = omega (arith, were.0, were.1)

      by_with : 0 * 2 ^ 32 + value u ms env by ≡ b
      by_with = omega (arith, by_is)

      less : env (inner (first + 1)) ≡ bit (nat_lt (brought p) b)
      less = solved.1.0 ∙ ap (λ x. bit (nat_lt x (0 * 2 ^ 32 + value u ms env by))) more ∙ ap (λ x. bit (nat_lt (brought p) x)) by_with

      taken : env (inner (first + 2)) ≡ (2 ^ 33 + brought p - b) % 2 ^ 33
      taken =
          solved.1.1.0 ∙ ap (λ x. (2 ^ 33 + x - (0 * 2 ^ 32 + value u ms env by)) % 2 ^ 33) more
          ∙ ap (λ x. (2 ^ 33 + brought p - x) % 2 ^ 33) by_with

      rest_is : env (inner (first + 3)) ≡ (with_digit b p).rest
      rest_is = solved.1.1.1.0
          ∙ ap (λ x. if is_set x then env (inner first) / 2 ^ 0 % 2 ^ 32 else env (inner (first + 2)) / 2 ^ 0 % 2 ^ 32) less
          ∙ ap (λ x. if is_set (bit (nat_lt (brought p) b)) then x / 2 ^ 0 % 2 ^ 32 else env (inner (first + 2)) / 2 ^ 0 % 2 ^ 32) more
          ∙ ap (λ x. if is_set (bit (nat_lt (brought p) b)) then brought p / 2 ^ 0 % 2 ^ 32 else x / 2 ^ 0 % 2 ^ 32) taken
          ∙ rest_made (brought p) b b_word more_small are.0

      digits_is : env (inner (first + 4)) ≡ (with_digit b p).digits
      digits_is =
          let less_bit : ℕ = bit (not (nat_lt (brought p) b)) in
          let low : p.digits / 2 ^ 0 % 2 ^ 31 * 2 ^ 1 + less_bit ≡ p.digits % 2 ^ 31 * 2 + less_bit = omega arith in
          solved.1.1.1.1.0
          ∙ ap (λ x. x / 2 ^ 0 % 2 ^ 31 * 2 ^ 1 + bit (not (is_set (env (inner (first + 1)))))) digits_was
          ∙ ap (λ x. p.digits / 2 ^ 0 % 2 ^ 31 * 2 ^ 1 + bit (not (is_set x))) less
          ∙ ap (λ x. p.digits / 2 ^ 0 % 2 ^ 31 * 2 ^ 1 + bit (not x)) (set_bit (nat_lt (brought p) b))
          ∙ low

-- digits after digits
pub more_digits : (n k b : ℕ) (p : Partial) → with_digits n b (with_digits k b p) ≡ with_digits (n + k) b p
unfolding with_digits
more_digits n zero b p = let same : n ≡ n + 0 = omega arith in ap (λ x. with_digits x b p) same
more_digits n (suc k) b p =
    let same : suc (n + k) ≡ n + suc k = omega arith in more_digits n k b (with_digit b p) ∙ ap (λ x. with_digits x b p) same

pub stage_divides : (N M : Type 0) → StageDivides N M
stage_divides N M u ms env inner a b k count first rest digits by a_word b_word few by_is is solved =
    let i : ℕ = 32 - (k + count) in
    digits_made u ms env inner count a b i (k + 0) first rest digits by (with_digits k b (begun a)) a_word b_word (omega (arith, few))
    by_is is (begun_keeps a b k (count + i) a_word (omega (arith, few))) solved
    ∙ more_digits count k b (begun a)
