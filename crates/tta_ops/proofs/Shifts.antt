-- A shift to the right that copies the top bit in.
use Rattle.std.proofs.Common.{◌≡◌, ◌<◌, ◌≤◌, ◌+◌, ◌-◌, ◌*◌, ◌/◌, ◌%◌, ◌^◌, ℕ, false, sym, ap, ◌∙◌, arith}
use Rattle.std.specs.Prelude.{nat_lt}
use Rattle.std.proofs.Math.Nat.{mul-le-mul_left, div-add-mod, div-eq_of_lt-le, div-lt_iff_lt-mul}
use Rattle.std.proofs.lemmas.Nat.{pow-add, pow_pos}
use Rattle.tta_ops.specs.Bits.{shifted_with_sign}

div_of_rest : (p k q r : ℕ) → r < p → (p * (k + 1 + q) - 1 - (p * q + r)) / p ≡ k
div_of_rest p k q r below = div-eq_of_lt-le p (omega arith) (omega arith)

-- a number below t, inverted, divided by p and inverted again, has gained what p leaves of t
inverted : (p k q r t : ℕ) → r < p → p * (k + 1 + q) ≡ t → k + 1 + q ≤ t
    → t - 1 - (t - 1 - (p * q + r)) / p ≡ q + (t - (k + 1 + q))
inverted p k q r t below whole part = rw (← whole, div_of_rest p k q r below) (omega (arith, part, whole))

-- the same at a word whose top bit is set
pub shifted_inverted : (a n : ℕ) → n < 32 → 2 ^ 31 ≤ a → a < 2 ^ 32
    → 4294967295 - (4294967295 - a) / 2 ^ n ≡ shifted_with_sign a n
shifted_inverted a n few top word =
    let p : ℕ = 2 ^ n in
    let m : ℕ = 2 ^ (32 - n) in
    let some : 0 < p = pow_pos n in
    let bits : n + (32 - n) ≡ 32 = omega arith in
    let whole : p * m ≡ 4294967296 = sym (pow-add 2 n (32 - n)) ∙ ap (λ k. 2 ^ k) bits in
    let number : p * (a / p) + a % p ≡ a = div-add-mod a p in
    let rest : a % p < p = omega (arith, some) in
    let small : a / p < m = (div-lt_iff_lt-mul {k = p} {x = a} {y = m} some).1 (omega (arith, whole, word)) in
    let k : ℕ = m - 1 - a / p in
    let parts : k + 1 + a / p ≡ m = omega (arith, small) in
    let once : m * 1 ≤ m * p = mul-le-mul_left m some in
    let within : k + 1 + a / p ≤ 4294967296 = omega (arith, parts, once, whole) in
    let result = inverted p k (a / p) (a % p) 4294967296 rest (ap (λ x. p * x) parts ∙ whole) within in
    let set : nat_lt a 2147483648 ≡ false = grind (arith, top) in
    rw set (rw (number, parts) at result)
