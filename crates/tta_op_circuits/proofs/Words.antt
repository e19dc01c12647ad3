-- What wires of operations make of words.
use Rattle.std.proofs.Common.{◌≡◌, ℕ, ◌<◌, ◌≤◌, ◌+◌, ◌*◌, ◌/◌, ◌%◌, ◌^◌, ◌-◌, Bool, true, false, not, nat_lt, refl, sym, ap, ◌∙◌, arith}
use Rattle.std.specs.Prelude.{if◌then◌else◌, bit_xor}
use Rattle.std.proofs.Math.Nat.{div-add-mod}
use Rattle.std.proofs.lemmas.Bool.{ltb-true, ltb-false}
use Rattle.std.proofs.lemmas.Nat.{pow_pos, pow-add, mul-lt, mul-le, div-mul-add, mod-mul-add, mod_below, div_below, and_mask}
use Rattle.std.specs.Int.Bits.{xor_add_and}
use Rattle.tta_op_circuits.specs.Cited.{shifted_with_sign, truth, lifted, bit, is_set}

pub top_bit : (x : ℕ) → x < 2 ^ 32 → x / 2 ^ 31 % 2 ^ 1 ≡ bit (not (nat_lt x (2 ^ 31)))
top_bit x word = elim (nat_lt x (2 ^ 31)) as (λ c. nat_lt x (2 ^ 31) ≡ c → x / 2 ^ 31 % 2 ^ 1 ≡ bit (not c)) [
  | true ↦ λ h. omega (arith, ltb-true x (2 ^ 31) h)
  | false ↦ λ h. omega (arith, ltb-false x (2 ^ 31) h, word)
] refl

lifted_made : (c : Bool) (x : ℕ) → (c ≡ true → x < 2 ^ 31) → (c ≡ false → 2 ^ 31 ≤ x) → x < 2 ^ 32
    → bit (not (is_set (bit (not c)))) * 2 ^ 31 + x / 2 ^ 0 % 2 ^ 31 ≡ (if c then x + 2 ^ 31 else x - 2 ^ 31)
lifted_made true x small large word = omega (arith, small refl)
lifted_made false x small large word = omega (arith, large refl, word)

pub lifted_is : (x : ℕ) → x < 2 ^ 32 → bit (not (is_set (x / 2 ^ 31 % 2 ^ 1))) * 2 ^ 31 + x / 2 ^ 0 % 2 ^ 31 ≡ lifted x
lifted_is x word =
    ap (λ t. bit (not (is_set t)) * 2 ^ 31 + x / 2 ^ 0 % 2 ^ 31) (top_bit x word)
    ∙ lifted_made (nat_lt x (2 ^ 31)) x (λ h. ltb-true x (2 ^ 31) h) (λ h. ltb-false x (2 ^ 31) h) word

pub as_truth : (c : Bool) → 0 * 2 ^ 1 + bit c ≡ truth c
as_truth true = refl
as_truth false = refl

pub as_untruth : (c : Bool) → 0 * 2 ^ 1 + bit (not (is_set (bit c))) ≡ (if c then 0 else 1)
as_untruth true = refl
as_untruth false = refl

pub upper_half : (x y : ℕ) → x < 2 ^ 32 → y < 2 ^ 32 → (0 * 2 ^ 32 + x) * (0 * 2 ^ 32 + y) % 2 ^ 64 / 2 ^ 32 % 2 ^ 32 ≡ x * y / 2 ^ 32
upper_half x y x_word y_word =
    let product : (0 * 2 ^ 32 + x) * (0 * 2 ^ 32 + y) ≡ x * y = omega arith in
    let fits : x * y < 2 ^ 64 = mul-lt x y (2 ^ 32) (2 ^ 32) x_word y_word in
    ap (λ p. p % 2 ^ 64 / 2 ^ 32 % 2 ^ 32) product ∙ omega (arith, fits)

-- a word with each bit turned
pub all_turned : (x : ℕ) → x < 2 ^ 32 → bit_xor x (2 ^ 32 - 1) ≡ 2 ^ 32 - 1 - x
all_turned x word = omega (arith, xor_add_and x (2 ^ 32 - 1), and_mask x 32, word)

-- ---- a shift that copies the top bit in

sign_shifted : (x n : ℕ) → n < 32 → 2 ^ 31 ≤ x → x < 2 ^ 32
    → ((2 ^ 32 - 1) * 2 ^ 32 + x) / 2 ^ n % 2 ^ 32 ≡ x / 2 ^ n + (2 ^ 32 - 2 ^ (32 - n))
sign_shifted x n few large word =
    let P : ℕ = 2 ^ n in
    let m : ℕ = 2 ^ (32 - n) in
    let some : 0 < P = pow_pos n in
    let all : 32 - n + n ≡ 32 = omega (arith, few) in
    let whole : m * P ≡ 2 ^ 32 = sym (pow-add 2 (32 - n) n) ∙ ap (λ k. 2 ^ k) all in
    let one : 0 < m = pow_pos (32 - n) in
    let rest : x % P < P = mod_below x P some in
    let below : x / P < m = div_below x P m some (omega (arith, whole, word)) in
    let most : m * 1 ≤ m * P = mul-le m 1 m P (omega arith) some in
    let cut : (2 ^ 32 - 1) * 2 ^ 32 + x ≡ ((2 ^ 32 - 1) * m + x / P) * P + x % P =
    ap (λ t. (2 ^ 32 - 1) * t + x) (sym whole) ∙ omega (arith, div-add-mod x P) in
    let over : (2 ^ 32 - 1) * m + x / P ≡ (m - 1) * 2 ^ 32 + (2 ^ 32 - m + x / P) = omega (arith, one, most, whole) in
    let turned : 2 ^ 32 - m + x / P ≡ x / P + (2 ^ 32 - m) = omega arith in
    ap (λ t. t / P % 2 ^ 32) cut
    ∙ ap (λ t. t % 2 ^ 32) (div-mul-add ((2 ^ 32 - 1) * m + x / P) P (x % P) rest)
    ∙ ap (λ t. t % 2 ^ 32) over
    ∙ mod-mul-add (m - 1) (2 ^ 32) (2 ^ 32 - m + x / P) (omega (arith, below, most, whole))
    ∙ turned

plain_shifted : (x n : ℕ) → x < 2 ^ 32 → (0 * 2 ^ 32 + x) / 2 ^ n % 2 ^ 32 ≡ x / 2 ^ n + 0
plain_shifted x n word =
    let some : 0 < 2 ^ n = pow_pos n in
    let once : 2 ^ 32 * 1 ≤ 2 ^ 32 * 2 ^ n = mul-le (2 ^ 32) 1 (2 ^ 32) (2 ^ n) (omega arith) some in
    let below : x / 2 ^ n < 2 ^ 32 = div_below x (2 ^ n) (2 ^ 32) some (omega (arith, once, word)) in
    let same : 0 * 2 ^ 32 + x ≡ x = omega arith in
    ap (λ t. t / 2 ^ n % 2 ^ 32) same ∙ omega (arith, below)

shifted_made : (c : Bool) (x n : ℕ) → n < 32 → (c ≡ false → 2 ^ 31 ≤ x) → x < 2 ^ 32
    → ((if is_set (bit (not c)) then 2 ^ 32 - 1 else 0) * 2 ^ 32 + x) / 2 ^ n % 2 ^ 32
    ≡ x / 2 ^ n + (if c then 0 else 2 ^ 32 - 2 ^ (32 - n))
shifted_made true x n few large word = plain_shifted x n word
shifted_made false x n few large word = sign_shifted x n few (large refl) word

-- a word with 32 bits like its top bit above it
abbrev pub with_sign : ℕ → ℕ
with_sign x = (if is_set (x / 2 ^ 31 % 2 ^ 1) then 2 ^ 32 - 1 else 0) * 2 ^ 32 + x

pub shifted_is : (x n : ℕ) → n < 32 → x < 2 ^ 32 → with_sign x / 2 ^ n / 2 ^ 0 % 2 ^ 32 ≡ shifted_with_sign x n
shifted_is x n few word =
    let whole : with_sign x / 2 ^ n / 2 ^ 0 ≡ with_sign x / 2 ^ n = omega arith in
    ap (λ t. t % 2 ^ 32) whole
    ∙ ap (λ t. ((if is_set t then 2 ^ 32 - 1 else 0) * 2 ^ 32 + x) / 2 ^ n % 2 ^ 32) (top_bit x word)
    ∙ shifted_made (nat_lt x (2 ^ 31)) x n few (λ h. ltb-false x (2 ^ 31) h) word

pub low_bits : (y : ℕ) → y / 2 ^ 0 % 2 ^ 5 ≡ y % 32
low_bits y = omega arith

-- ---- comparisons

-- a word whose top bit is turned, as wires make it
abbrev pub lifted_wire : ℕ → ℕ
lifted_wire x = bit (not (is_set (x / 2 ^ 31 % 2 ^ 1))) * 2 ^ 31 + x / 2 ^ 0 % 2 ^ 31

pub below_is : (x y : ℕ) → x < 2 ^ 32 → y < 2 ^ 32
    → 0 * 2 ^ 1 + bit (nat_lt (lifted_wire x) (lifted_wire y)) ≡ truth (nat_lt (lifted x) (lifted y))
below_is x y x_word y_word =
    ap (λ s. 0 * 2 ^ 1 + bit (nat_lt s (lifted_wire y))) (lifted_is x x_word)
    ∙ ap (λ s. 0 * 2 ^ 1 + bit (nat_lt (lifted x) s)) (lifted_is y y_word)
    ∙ as_truth (nat_lt (lifted x) (lifted y))
