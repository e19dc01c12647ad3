-- How many bits tell so many codes apart.
use Rattle.std.proofs.Common.{◌≡◌, ℕ, zero, suc, ◌+◌, ◌-◌, ◌*◌, ◌/◌, ◌^◌, ◌<◌, ◌≤◌, lit<, sym, ◌∙◌, inl, inr, ap, arith}
use Rattle.std.proofs.lemmas.Nat.{pow_pos, pow_below, pow-add, shr_split, mod_below, div_below}
use Rattle.std.proofs.lemmas.Bool.{le-leb, lt-leb, cases_lt}
use Rattle.tta_arch.specs.Fields.{width_from, width_for}

-- more than so many codes need more than so many bits
abbrev pub AreTooFew : (codes width : ℕ) → Type 0
AreTooFew codes width = (v : ℕ) → v < width → 2 ^ v < codes

width_from-is : (tries v codes width : ℕ) → v ≤ width → width ≤ v + tries → codes ≤ 2 ^ width → AreTooFew codes width
    → width_from tries v codes ≡ width
width_from-is zero v codes width low high fits few = omega arith
width_from-is (suc tries) v codes width low high fits few = elim (cases_lt v width) [
  | inl more ↦ rw (lt-leb codes (2 ^ v) (few v more)) (width_from-is tries (v + 1) codes width (omega arith) (omega arith) fits few)
  | inr enough ↦ let e : v ≡ width = omega arith in let le : codes ≤ 2 ^ v = rw e fits in rw (le-leb codes (2 ^ v) le) e
]

below_pow : (n : ℕ) → n < 2 ^ n
below_pow zero = lit< tt
below_pow (suc n) = let h = below_pow n in let p : 2 ^ suc n ≡ 2 * 2 ^ n = omega arith in omega arith

-- the width is the one that is wide enough where all below it are not
pub width_for-is : (codes width : ℕ) → codes ≤ 2 ^ width → AreTooFew codes width → width_for codes ≡ width
unfolding width_for
width_for-is codes zero fits few = width_from-is codes 0 codes 0 (omega arith) (omega arith) fits few
width_for-is codes (suc w) fits few =
    let h = few w (omega arith) in let p = below_pow w in
    width_from-is codes 0 codes (suc w) (omega arith) (omega arith) fits few

-- so many bits are enough where the highest code has no bit above them
pub enough_from_high : (codes width : ℕ) → (codes - 1) / 2 ^ width ≡ 0 → codes ≤ 2 ^ width
enough_from_high codes width h =
    let split = shr_split (codes - 1) width in
    let below = mod_below (codes - 1) (2 ^ width) (pow_pos width) in
    let product : (codes - 1) / 2 ^ width * 2 ^ width ≡ 0 * 2 ^ width = ap (λ q. q * 2 ^ width) h in
    omega arith

width_from-enough : (tries v codes : ℕ) → codes ≤ 2 ^ (v + tries) → codes ≤ 2 ^ width_from tries v codes
width_from-enough zero v codes h = let e : v + 0 ≡ v = omega arith in rw e at h
width_from-enough (suc tries) v codes h =
    let e : v + suc tries ≡ v + 1 + tries = omega arith in
    let rest = width_from-enough tries (v + 1) codes (rw e at h) in
    elim (cases_lt (2 ^ v) codes) [
      | inl more ↦ rw (lt-leb codes (2 ^ v) more) rest
      | inr enough ↦ rw (le-leb codes (2 ^ v) enough) enough
    ]

-- the width is wide enough
pub width_for-enough : (codes : ℕ) → codes ≤ 2 ^ width_for codes
unfolding width_for
width_for-enough codes =
    let h = below_pow codes in let e : 0 + codes ≡ codes = omega arith in
    let le : codes ≤ 2 ^ (0 + codes) = rw e (omega arith) in
    width_from-enough codes 0 codes le

-- more bits hold more
pub pow_le : (a b : ℕ) → a ≤ b → 2 ^ a ≤ 2 ^ b
pow_le a b h = elim (cases_lt a b) [
  | inl lt ↦ let p = pow_below a b lt in omega arith
  | inr ge ↦ let e : a ≡ b = omega arith in rw e (omega arith)
]

-- a number has no bits above its own
pub no_high : (n w k : ℕ) → n < 2 ^ w → w ≤ k → n / 2 ^ k ≡ 0
no_high n w k small h =
    let e : w + (k - w) ≡ k = omega arith in
    let p : 2 ^ k ≡ 2 ^ w * 2 ^ (k - w) = ap (λ j. 2 ^ j) (sym e) ∙ pow-add 2 w (k - w) in
    let some : 0 < 2 ^ (k - w) = pow_pos (k - w) in
    let below : n < 1 * 2 ^ k = rw p (grind arith) in
    let quotient : n / 2 ^ k < 1 = div_below n (2 ^ k) 1 (pow_pos k) below in
    omega arith
