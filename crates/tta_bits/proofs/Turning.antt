-- A word that stands twice, shifted, has the word turned as its upper half.
use Rattle.std.proofs.Common.{◌≡◌, ℕ, zero, suc, ◌<◌, ◌+◌, ◌*◌, ◌/◌, ◌%◌, ◌^◌, ◌-◌, sym, ap, ◌∙◌, arith}
use Rattle.std.specs.Prelude.{bit_or}
use Rattle.std.specs.Int.Bits.{or_self}
use Rattle.std.proofs.Math.Nat.{div-add-mod}
use Rattle.std.proofs.lemmas.Nat.{pow_pos, pow-add, mul-add-lt, mod-mul-add, mod_below, div_below, or_shifted}

-- a word shifted by n bits is its n upper bits above the others
turned_parts : (x n h l : ℕ) → x * 2 ^ n ≡ h * 2 ^ 32 + l → h + l < 2 ^ 32
    → (x * 2 ^ 32 + x) * 2 ^ n % 2 ^ 64 / 2 ^ 32 % 2 ^ 32 ≡ l + h
turned_parts x n h l parts fits =
    let whole : (x * 2 ^ 32 + x) * 2 ^ n ≡ x * 2 ^ n * 2 ^ 32 + x * 2 ^ n = omega arith in
    let digits : x * 2 ^ n * 2 ^ 32 + x * 2 ^ n ≡ h * 2 ^ 64 + ((h + l) * 2 ^ 32 + l) = omega (arith, parts) in
    ap (λ t. t % 2 ^ 64 / 2 ^ 32 % 2 ^ 32) (whole ∙ digits) ∙ omega (arith, fits)

pub turned_is : (x n : ℕ) → n < 32 → x < 2 ^ 32
    → (x * 2 ^ 32 + x) * 2 ^ n % 2 ^ 64 / 2 ^ 32 % 2 ^ 32 ≡ bit_or (x * 2 ^ n % 2 ^ 32) (x / 2 ^ ((32 - n) % 32))
turned_is x zero few word =
    let same : x + 0 ≡ x = omega arith in
    let left : x ≡ x * 1 % 2 ^ 32 = omega (arith, word) in
    let right : x ≡ x / 1 = omega arith in
    turned_parts x 0 0 x (omega arith) (omega (arith, word)) ∙ same ∙ sym (or_self x) ∙ ap (λ t. bit_or t x) left
    ∙ ap (bit_or (x * 1 % 2 ^ 32)) right
turned_is x (suc n) few word =
    let P : ℕ = 2 ^ suc n in
    let m : ℕ = 2 ^ (32 - suc n) in
    let some : 0 < m = pow_pos (32 - suc n) in
    let all : 32 - suc n + suc n ≡ 32 = omega (arith, few) in
    let whole : m * P ≡ 2 ^ 32 = sym (pow-add 2 (32 - suc n) (suc n)) ∙ ap (λ k. 2 ^ k) all in
    let h : ℕ = x / m in
    let low : ℕ = x % m in
    let h_fits : h < P = div_below x m P some (omega (arith, whole, word)) in
    let low_fits : low < m = mod_below x m some in
    let fits : low * P + h < P * m = mul-add-lt low P h m low_fits h_fits in
    let moved : (m * h + low) * P ≡ h * (m * P) + low * P = omega arith in
    let parts : x * P ≡ h * 2 ^ 32 + low * P =
    ap (λ t. t * P) (sym (div-add-mod x m)) ∙ moved ∙ ap (λ t. h * t + low * P) whole in
    let rest : low * P < 2 ^ 32 = omega (arith, fits, whole) in
    let left : x * P % 2 ^ 32 ≡ low * P = ap (λ t. t % 2 ^ 32) parts ∙ mod-mul-add h (2 ^ 32) (low * P) rest in
    let right : (32 - suc n) % 32 ≡ 32 - suc n = omega arith in
    turned_parts x (suc n) h (low * P) parts (omega (arith, fits, whole))
    ∙ sym (or_shifted low (suc n) h h_fits)
    ∙ ap (λ t. bit_or t h) (sym left)
    ∙ ap (λ k. bit_or (x * P % 2 ^ 32) (x / 2 ^ k)) (sym right)
