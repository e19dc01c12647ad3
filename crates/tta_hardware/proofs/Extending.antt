-- The word of a short field by its highest bit.
use Rattle.std.proofs.Common.{◌≡◌, ℕ, zero, suc, ◌+◌, ◌-◌, ◌*◌, ◌/◌, ◌%◌, ◌^◌, ◌<◌, ◌≤◌, true, if◌then◌else◌, sym, ap, ◌∙◌, inl, inr, arith}
use Rattle.std.proofs.lemmas.Bool.{le-leb, lt-leb, cases_lt}
use Rattle.std.proofs.lemmas.Nat.{mod_below, pow_pos, pow-add, div_below, shr_split}
use Rattle.tta_arch.proofs.Widths.{no_high}
use Rattle.tta_hardware.specs.Cited.{short_word, is_set}

one_less : (q p : ℕ) → 0 < q → (q - 1) * p ≡ q * p - p
one_less zero p h = absurd (omega arith)
one_less (suc q) p h = let e : suc q - 1 ≡ q = omega arith in let d : suc q * p ≡ q * p + p = grind arith in rw e (omega arith)

-- the bits above the low w of a word
high_part : (w : ℕ) → w ≤ 32 → (2 ^ (32 - w) - 1) * 2 ^ w ≡ 2 ^ 32 - 2 ^ w
high_part w h =
    let e : 32 - w + w ≡ 32 = omega arith in
    let p : 2 ^ 32 ≡ 2 ^ (32 - w) * 2 ^ w = ap (λ (n : ℕ). 2 ^ n) (sym e) ∙ pow-add 2 (32 - w) w in
    let less = one_less (2 ^ (32 - w)) (2 ^ w) (pow_pos (32 - w)) in
    omega arith

-- the highest of so many bits
top_bit : (y k : ℕ) → y < 2 ^ (k + 1) → 2 ^ k ≤ y → y / 2 ^ k ≡ 1
top_bit y k small ge =
    let double : 2 ^ (k + 1) ≡ 2 ^ k * 2 = pow-add 2 k 1 in
    let q = div_below y (2 ^ k) 2 (pow_pos k) (omega arith) in
    let split = shr_split y k in
    let below = mod_below y (2 ^ k) (pow_pos k) in
    elim (cases_lt (y / 2 ^ k) 1) [
      | inl lt ↦ let p : y / 2 ^ k * 2 ^ k ≡ 0 * 2 ^ k = ap (λ (x : ℕ). x * 2 ^ k) (omega arith) in absurd (omega arith)
      | inr more ↦ omega arith
    ]

-- a short field with all its high bits, by its highest bit
pub extended : (w y sign : ℕ) → 0 < w → w ≤ 32 → y < 2 ^ w → sign ≡ y / 2 ^ (w - 1) % 2 ^ 1
    → (if is_set sign then (2 ^ (32 - w) - 1) * 2 ^ w + y else 0 * 2 ^ w + y) ≡ short_word true w y
extended w y sign some most small is =
    let k : ℕ = w - 1 in
    let e : w ≡ k + 1 = omega arith in
    let double : 2 ^ w ≡ 2 ^ (k + 1) = ap (λ (n : ℕ). 2 ^ n) e in
    let high = high_part w most in
    elim (cases_lt y (2 ^ k)) [
      | inl lt ↦
          let none : y / 2 ^ k ≡ 0 = no_high y k k lt (omega arith) in
          let zero_sign : sign ≡ 0 = is ∙ ap (λ (x : ℕ). x % 2 ^ 1) none in
          rw (zero_sign, lt-leb (2 ^ k) y lt) (omega arith)
      | inr ge ↦
          let one : y / 2 ^ k ≡ 1 = top_bit y k (omega arith) ge in
          let one_sign : sign ≡ 1 = is ∙ ap (λ (x : ℕ). x % 2 ^ 1) one in
          rw (one_sign, le-leb (2 ^ k) y ge) (omega arith)
    ]
