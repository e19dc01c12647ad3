-- A long division gives the quotient and the remainder.
use Rattle.std.proofs.Common.{◌≡◌, ℕ, zero, suc, ◌<◌, ◌≤◌, ◌+◌, ◌*◌, ◌/◌, ◌%◌, ◌^◌, ◌-◌, Bool, true, false, not, nat_lt, refl, sym, ap, ◌∙◌, subst, arith}
use Rattle.std.specs.Prelude.{if◌then◌else◌, nat_eq}
use Rattle.std.proofs.Math.Nat.{pow-suc, div-add-mod}
use Rattle.std.proofs.lemmas.Bool.{ltb-true, ltb-false, eqb-true, eqb-false}
use Rattle.std.proofs.lemmas.Nat.{pow_pos, pow-add, div_below, mod_below, mul-add-lt, div-mul-add, mod-mul-add}
use Rattle.tta_op_circuits.specs.Cited.{divide, bit}
use Rattle.tta_op_circuits.specs.Division.{Partial, begun, brought, rest_of, with_digit, with_digits}
use Rattle.tta_op_circuits.specs.Laws.{divided, DividesInSteps}

-- What is known of a division of a by b of which k digits are done and i are left: the dividend is some upper digits, which
-- were read, and some lower ones; the upper ones are q times b and the rest.
pub record IsPart (a b i k : ℕ) (p : Partial) : Type 0 where
  pub upper : ℕ
  pub lower : ℕ
  pub q : ℕ
  pub whole : a ≡ upper * 2 ^ i + lower
  pub lower_fits : lower < 2 ^ i
  pub digits : p.digits ≡ lower * 2 ^ k + q
  pub q_fits : q < 2 ^ k
  pub parts : upper ≡ q * b + p.rest
  pub below : 0 < b → p.rest < b
  pub none : b ≡ 0 → q + 1 ≡ 2 ^ k

-- the top digit of a word, and what is below it
split_digits : (P K H t low q d : ℕ) → P * K ≡ H → low < P → q < K → d ≡ (t * P + low) * K + q
    → (d / H ≡ t) × (d % H ≡ low * K + q)
split_digits P K H t low q d whole less small is =
    let fits : low * K + q < H = omega (arith, mul-add-lt low K q P less small, whole) in
    let apart : (t * P + low) * K + q ≡ t * (P * K) + (low * K + q) = omega arith in
    let cut : d ≡ t * H + (low * K + q) = is ∙ apart ∙ ap (λ h. t * h + (low * K + q)) whole in
    (ap (λ x. x / H) cut ∙ div-mul-add t H (low * K + q) fits, ap (λ x. x % H) cut ∙ mod-mul-add t H (low * K + q) fits)

-- one digit more of the quotient, whose digit so far are q
quotient_digit : (q b t rest brought upper : ℕ) (less : Bool) → upper ≡ q * b + rest → brought ≡ rest * 2 + t
    → (less ≡ false → b ≤ brought)
    → upper * 2 + t ≡ (q * 2 + bit (not less)) * b + rest_of less brought b
quotient_digit q b t rest brought upper true is new not_less = omega (arith, is, new)
quotient_digit q b t rest brought upper false is new not_less = omega (arith, is, new, not_less refl)

rest_below : (b t rest brought : ℕ) (less : Bool) → brought ≡ rest * 2 + t → t < 2 → rest < b → (less ≡ true → brought < b)
    → (less ≡ false → b ≤ brought) → rest_of less brought b < b
rest_below b t rest brought true new small fits is is_not = is refl
rest_below b t rest brought false new small fits is is_not = omega (arith, new, small, fits, is_not refl)

digit_fits : (q K x : ℕ) (less : Bool) → q < K → q * 2 + bit (not less) < K * 2
digit_fits q K x true h = omega (arith, h)
digit_fits q K x false h = omega (arith, h)

last_digit : (q K b brought : ℕ) (less : Bool) → (less ≡ true → brought < b) → b ≡ 0 → q + 1 ≡ K → (q * 2 + bit (not less)) + 1 ≡ K * 2
last_digit q K b brought true is zero_ h = absurd (omega (arith, is refl, zero_))
last_digit q K b brought false is zero_ h = omega (arith, h)

-- a digit leaves a division one
pub digit_keeps : (a b i k : ℕ) (p : Partial) → i + k ≡ 31 → IsPart a b (suc i) k p → IsPart a b i (suc k) (with_digit b p)
digit_keeps a b i k p count o =
    let P : ℕ = 2 ^ i in
    let K : ℕ = 2 ^ k in
    let some : 0 < P = pow_pos i in
    let twice_P : 2 ^ suc i ≡ P * 2 = pow-suc 2 i in
    let twice_K : 2 ^ suc k ≡ K * 2 = pow-suc 2 k in
    let product : P * K ≡ 2 ^ 31 = sym (pow-add 2 i k) ∙ ap (λ n. 2 ^ n) count in
    let t : ℕ = o.lower / P in
    let low : ℕ = o.lower % P in
    let cut : t * P + low ≡ o.lower = omega (arith, div-add-mod o.lower P) in
    let low_fits : low < P = mod_below o.lower P some in
    let lower_fits : o.lower < 2 * P = omega (arith, o.lower_fits, twice_P) in
    let t_small : t < 2 = div_below o.lower P 2 some lower_fits in
    let digits : p.digits ≡ (t * P + low) * K + o.q = o.digits ∙ ap (λ x. x * K + o.q) (sym cut) in
    let s = split_digits P K (2 ^ 31) t low o.q p.digits product low_fits o.q_fits digits in
    let new : brought p ≡ p.rest * 2 + t = ap (λ x. p.rest * 2 + x) s.0 in
    let less : Bool = nat_lt (brought p) b in
    let is : less ≡ true → brought p < b = λ h. ltb-true (brought p) b h in
    let is_not : less ≡ false → b ≤ brought p = λ h. ltb-false (brought p) b h in
    let taken : o.upper * 2 ^ suc i + o.lower ≡ (o.upper * 2 + t) * P + low =
    ap (λ x. o.upper * x + o.lower) twice_P ∙ omega (arith, cut) in
    let moved : (low * K + o.q) * 2 + bit (not less) ≡ low * (K * 2) + (o.q * 2 + bit (not less)) = omega arith in
    record {
      upper = o.upper * 2 + t;
      lower = low;
      q = o.q * 2 + bit (not less);
      whole = o.whole ∙ taken;
      lower_fits = low_fits;
      digits = ap (λ x. x * 2 + bit (not less)) s.1 ∙ moved ∙ ap (λ x. low * x + (o.q * 2 + bit (not less))) (sym twice_K);
      q_fits = subst (λ x. o.q * 2 + bit (not less) < x) (sym twice_K) (digit_fits o.q K 0 less o.q_fits);
      parts = quotient_digit o.q b t p.rest (brought p) o.upper less o.parts new is_not;
      below = λ h. rest_below b t p.rest (brought p) less new t_small (o.below h) is is_not;
      none = λ h. last_digit o.q K b (brought p) less is h (o.none h) ∙ sym twice_K;
    }

pub begun_is : (a b : ℕ) → a < 2 ^ 32 → IsPart a b 32 0 (begun a)
begun_is a b word = record {
  upper = 0;
  lower = a;
  q = 0;
  whole = omega arith;
  lower_fits = word;
  digits = omega arith;
  q_fits = omega arith;
  parts = omega arith;
  below = λ h. h;
  none = λ h. omega arith;
}

-- so many digits do
pub digits_keep : (n a b i k : ℕ) (p : Partial) → i + (n + k) ≡ 32 → IsPart a b (n + i) k p → IsPart a b i (n + k) (with_digits n b p)
unfolding with_digits
digits_keep zero a b i k p count o =
    let left : 0 + i ≡ i = omega arith in
    let read : k ≡ 0 + k = omega arith in
    subst (λ x. IsPart a b i x p) read (subst (λ x. IsPart a b x k p) left o)
digits_keep (suc n) a b i k p count o =
    let left : suc n + i ≡ suc (n + i) = omega arith in
    let read : n + suc k ≡ suc n + k = omega arith in
    subst (λ x. IsPart a b i x (with_digits n b (with_digit b p))) read
    (digits_keep n a b i (suc k) (with_digit b p) (omega (arith, count))
    (digit_keeps a b (n + i) k p (omega (arith, count)) (subst (λ x. IsPart a b x k p) left o)))

-- a division with no digit left is done
pub done : (a b : ℕ) (p : Partial) → IsPart a b 0 32 p → p ≡ divided a b
done a b p o =
    let lower : o.lower ≡ 0 = omega (arith, o.lower_fits) in
    let upper : a ≡ o.upper = omega (arith, o.whole, lower) in
    let digits : p.digits ≡ o.q = omega (arith, o.digits, lower) in
    let parts : a ≡ o.q * b + p.rest = upper ∙ o.parts in
    let q_is : o.q ≡ (divide 0).value a b = elim (nat_eq b 0) as (λ c. nat_eq b 0 ≡ c → o.q ≡ (if c then 2 ^ 32 - 1 else a / b)) [
      | true ↦ λ h. omega (arith, o.none (eqb-true b 0 h))
      | false ↦ λ h.
          let some : 0 < b = omega (arith, eqb-false b 0 h) in
          sym (ap (λ x. x / b) parts ∙ div-mul-add o.q b p.rest (o.below some))
    ] refl in
    let r_is : p.rest ≡ (divide 1).value a b = elim (nat_eq b 0) as (λ c. nat_eq b 0 ≡ c → p.rest ≡ (if c then a else a % b)) [
      | true ↦ λ h. let none : b ≡ 0 = eqb-true b 0 h in sym (parts ∙ ap (λ x. o.q * x + p.rest) none ∙ omega arith)
      | false ↦ λ h.
          let some : 0 < b = omega (arith, eqb-false b 0 h) in
          sym (ap (λ x. x % b) parts ∙ mod-mul-add o.q b p.rest (o.below some))
    ] refl in
    λ i. record { rest = r_is i; digits = (digits ∙ q_is) i }

-- a division of which k digits are done
pub begun_keeps : (a b k left : ℕ) → a < 2 ^ 32 → k + left ≡ 32 → IsPart a b left (k + 0) (with_digits k b (begun a))
begun_keeps a b k left word count =
    digits_keep k a b left 0 (begun a) (omega (arith, count)) (subst (λ x. IsPart a b x 0 (begun a)) (sym count) (begun_is a b word))

pub divides_in_steps : DividesInSteps
divides_in_steps a b word k left count =
    let p : Partial = with_digits k b (begun a) in
    let left_is : left ≡ left + 0 = omega arith in
    let all_is : left + (k + 0) ≡ 32 = omega (arith, count) in
    let first : IsPart a b (left + 0) (k + 0) p = subst (λ x. IsPart a b x (k + 0) p) left_is (begun_keeps a b k left word count) in
    let second : IsPart a b 0 (left + (k + 0)) (with_digits left b p) =
    digits_keep left a b 0 (k + 0) p (omega (arith, count)) first in
    done a b (with_digits left b p) (subst (λ x. IsPart a b 0 x (with_digits left b p)) all_is second)
