-- Wires of no more bits than they need make the digits of a division.
use Rattle.std.proofs.Common.{◌≡◌, ℕ, zero, suc, ◌<◌, ◌≤◌, ◌+◌, ◌*◌, ◌/◌, ◌%◌, ◌^◌, ◌-◌, ◌==◌, Bool, true, false, not, nat_lt, List, refl, sym, ap, ◌∙◌, subst, arith}
use Rattle.std.specs.Prelude.{if◌then◌else◌}
use Rattle.std.proofs.Math.Nat.{pow-suc}
use Rattle.std.proofs.lemmas.Bool.{eqb-true, ltb-false}
use Rattle.std.proofs.lemmas.Nat.{mod-mul-add}
use Rattle.tta_op_circuits.specs.Cited.{Units, Expr, Join, Signal, Slice, bit, is_set, value, Solves}
use Rattle.tta_op_circuits.specs.Division.{Partial, begun, brought, rest_of, with_digit, with_digits}
use Rattle.tta_op_circuits.specs.Narrow.{brought_word, narrow_cut}
use Rattle.tta_op_circuits.specs.Laws.{divided, held}
use Rattle.tta_op_circuits.proofs.Dividing.{IsPart, begun_is, digit_keeps, divides_in_steps}
use Rattle.tta_op_circuits.proofs.Stages.{fits, set_bit}

-- a number below a modulus is its own rest, also once the modulus is added
small_is : (H x : ℕ) → x < H → x % H ≡ x
small_is H x small = let once : x ≡ 0 * H + x = omega arith in ap (λ t. t % H) once ∙ mod-mul-add 0 H x small

left_is : (H more by : ℕ) → by ≤ more → more < H → (H + more - by) % H ≡ more - by
left_is H more by less small =
    let once : H + more - by ≡ 1 * H + (more - by) = omega (arith, less) in
    ap (λ t. t % H) once ∙ mod-mul-add 1 H (more - by) (omega (arith, small))

-- the new rest, as wires of so many bits make it
abbrev rest_wire : (c : Bool) → (H more by : ℕ) → ℕ
rest_wire c H more by = if is_set (bit c) then more else (H + more - by / 2 ^ 0 % H) % H

rest_made : (H more by : ℕ) (c : Bool) → (c ≡ false → by ≤ more) → more < H → rest_wire c H more by ≡ rest_of c more by
rest_made H more by true is_not small = refl
rest_made H more by false is_not small =
    let less : by ≤ more = is_not refl in
    let whole : by / 1 ≡ by = omega arith in
    ap (λ t. (H + more - t % H) % H) whole ∙ ap (λ t. (H + more - t) % H) (small_is H by (omega (arith, less, small)))
    ∙ left_is H more by less small

no_more : (c : Bool) (more by : ℕ) → rest_of c more by ≤ more
no_more true more by = omega arith
no_more false more by = omega arith

module _ {N M : Type 0} (u : Units) (ms : M → List ℕ) (env : N → ℕ) where
  -- the rest with a digit
  brought_is : (done : ℕ) (rest digits : Expr N M) (p : Partial) → value u ms env rest ≡ p.rest → value u ms env digits ≡ p.digits
      → p.rest < 2 ^ done → p.digits < 2 ^ 32 → value u ms env (brought_word done rest digits) ≡ brought p
  brought_is done rest digits p rest_was digits_was few word =
      elim (done == 0) as (λ c. done == 0 ≡ c → value u ms env (if c then Slice 31 1 digits else Join 1 rest (Slice 31 1 digits)) ≡ brought p) [
        | true ↦ λ h.
            let none : p.rest < 2 ^ 0 = subst (λ j. p.rest < 2 ^ j) (eqb-true done 0 h) few in
            let top : p.digits / 2 ^ 31 % 2 ^ 1 ≡ p.rest * 2 + p.digits / 2 ^ 31 = omega (arith, none, word) in
            ap (λ x. x / 2 ^ 31 % 2 ^ 1) digits_was ∙ top
        | false ↦ λ h.
            let top : p.rest * 2 ^ 1 + p.digits / 2 ^ 31 % 2 ^ 1 ≡ p.rest * 2 + p.digits / 2 ^ 31 = omega (arith, word) in
            ap (λ x. x * 2 ^ 1 + value u ms env digits / 2 ^ 31 % 2 ^ 1) rest_was
            ∙ ap (λ x. p.rest * 2 ^ 1 + x / 2 ^ 31 % 2 ^ 1) digits_was ∙ top
      ] refl

  module _ (inner : ℕ → N) where
    narrow_made : (count a b i k first : ℕ) (rest digits by : Expr N M) (p : Partial)
        → a < 2 ^ 32 → b < 2 ^ 32 → i + (count + k) ≡ 32 → value u ms env by ≡ b → held u ms env rest digits ≡ p → p.rest < 2 ^ k
        → IsPart a b (count + i) k p → Solves u ms env (narrow_cut inner count k first rest digits by).wires
        → held u ms env (narrow_cut inner count k first rest digits by).rest (narrow_cut inner count k first rest digits by).digits
        ≡ with_digits count b p
    unfolding narrow_cut with_digits
    narrow_made zero a b i k first rest digits by p a_word b_word count by_is is few o solved = is
    narrow_made (suc n) a b i k first rest digits by p a_word b_word count by_is is few o solved =
        subst (λ j. Solves u ms env (narrow_cut inner n j (first + 5) (Signal (inner (first + 3))) (Signal (inner (first + 4))) by).wires
        → held u ms env (narrow_cut inner n j (first + 5) (Signal (inner (first + 3))) (Signal (inner (first + 4))) by).rest
        (narrow_cut inner n j (first + 5) (Signal (inner (first + 3))) (Signal (inner (first + 4))) by).digits
        ≡ with_digits n b (with_digit b p)) one_more
        (narrow_made n a b i (suc k) (first + 5) (Signal (inner (first + 3))) (Signal (inner (first + 4))) by (with_digit b p)
        a_word b_word (omega (arith, count)) by_is (λ j. record { rest = rest_is j; digits = digits_is j }) fewer next)
        solved.1.1.1.1.1
      where
        one_more : suc k ≡ k + 1
        one_more = omega arith

        H : ℕ
        H = 2 ^ (k + 1)

        twice : H ≡ 2 ^ k * 2
        twice = ap (λ j. 2 ^ j) (sym one_more) ∙ pow-suc 2 k

        rest_was : value u ms env rest ≡ p.rest
        rest_was = ap (λ q. q.rest) is

        digits_was : value u ms env digits ≡ p.digits
        digits_was = ap (λ q. q.digits) is

        o' : IsPart a b (suc (n + i)) k p
        o' = let left : suc n + i ≡ suc (n + i) = omega arith in subst (λ x. IsPart a b x k p) left o

        next : IsPart a b (n + i) (suc k) (with_digit b p)
        next = digit_keeps a b (n + i) k p (omega (arith, count)) o'

        word : p.digits < 2 ^ 32
        word = (fits a b (suc n + i) k p (omega (arith, count)) a_word o).1

        more : env (inner first) ≡ brought p
        more = solved.0 ∙ brought_is k rest digits p rest_was digits_was few word

        more_small : brought p < H
        more_small = omega (arith, few, word, twice)

        fewer : (with_digit b p).rest < 2 ^ suc k
        fewer = omega (arith, no_more (nat_lt (brought p) b) (brought p) b, more_small, twice, pow-suc 2 k)

        by_with : 0 * 2 ^ 32 + value u ms env by ≡ b
        by_with = omega (arith, by_is)

        more_with : 0 * H + env (inner first) ≡ brought p
        more_with = omega (arith, more)

        less : env (inner (first + 1)) ≡ bit (nat_lt (brought p) b)
        less =
            solved.1.0 ∙ ap (λ x. bit (nat_lt x (0 * 2 ^ 32 + value u ms env by))) more_with ∙ ap (λ x. bit (nat_lt (brought p) x)) by_with

        taken : env (inner (first + 2)) ≡ (H + brought p - b / 2 ^ 0 % H) % H
        taken =
            solved.1.1.0 ∙ ap (λ x. (H + x - value u ms env by / 2 ^ 0 % H) % H) more ∙ ap (λ x. (H + brought p - x / 2 ^ 0 % H) % H) by_is

        rest_is : env (inner (first + 3)) ≡ (with_digit b p).rest
        rest_is = solved.1.1.1.0
            ∙ ap (λ x. if is_set x then env (inner first) else env (inner (first + 2))) less
            ∙ ap (λ x. if is_set (bit (nat_lt (brought p) b)) then x else env (inner (first + 2))) more
            ∙ ap (λ x. if is_set (bit (nat_lt (brought p) b)) then brought p else x) taken
            ∙ rest_made H (brought p) b (nat_lt (brought p) b) (λ is_not. ltb-false (brought p) b is_not) more_small

        digits_is : env (inner (first + 4)) ≡ (with_digit b p).digits
        digits_is =
            let less_bit : ℕ = bit (not (nat_lt (brought p) b)) in
            let low : p.digits / 2 ^ 0 % 2 ^ 31 * 2 ^ 1 + less_bit ≡ p.digits % 2 ^ 31 * 2 + less_bit = omega arith in
            solved.1.1.1.1.0
            ∙ ap (λ x. x / 2 ^ 0 % 2 ^ 31 * 2 ^ 1 + bit (not (is_set (env (inner (first + 1)))))) digits_was
            ∙ ap (λ x. p.digits / 2 ^ 0 % 2 ^ 31 * 2 ^ 1 + bit (not (is_set x))) less
            ∙ ap (λ x. p.digits / 2 ^ 0 % 2 ^ 31 * 2 ^ 1 + bit (not x)) (set_bit (nat_lt (brought p) b))
            ∙ low

    -- all digits
    pub divided_at_once : (a b : ℕ) (rest digits by : Expr N M) → a < 2 ^ 32 → b < 2 ^ 32 → value u ms env rest ≡ 0
        → value u ms env digits ≡ a → value u ms env by ≡ b → Solves u ms env (narrow_cut inner 32 0 0 rest digits by).wires
        → held u ms env (narrow_cut inner 32 0 0 rest digits by).rest (narrow_cut inner 32 0 0 rest digits by).digits ≡ divided a b
    unfolding with_digits
    divided_at_once a b rest digits by a_word b_word none all by_is solved =
        narrow_made 32 a b 0 0 0 rest digits by (begun a) a_word b_word refl by_is
        (λ j. record { rest = none j; digits = all j }) (omega arith) (begun_is a b a_word) solved
        ∙ divides_in_steps a b a_word 0 32 refl
