-- Parts of numbers, and of the numbers that bits make.
use Rattle.std.proofs.Common.{◌≡◌, ℕ, ◌+◌, ◌-◌, ◌*◌, ◌/◌, ◌%◌, ◌^◌, ◌<◌, ◌≤◌, min, Bool, List, ◌++◌, length, sym, ap, ◌∙◌, inl, inr, arith}
use Rattle.std.proofs.lemmas.Bool.{cases_lt}
use Rattle.std.proofs.lemmas.List.{append_assoc}
use Rattle.std.proofs.lemmas.Nat.{shr-shr, shr_high, mod_low, mod_below, mod-pow-add, pow_pos}
use Rattle.std.proofs.Math.Pow.{mod-mod-pow}
use Rattle.tta_hardware.specs.Cited.{number_of}
use Rattle.tta_image.proofs.BitLemmas.{low_whole}
use Rattle.tta_image.proofs.Numbers.{number_of-append, number_of-below}

-- a low part of a low part
pub low_low : (n w k : ℕ) → k ≤ w → n % 2 ^ w % 2 ^ k ≡ n % 2 ^ k
low_low n w k h =
    let e : w ≡ (w - k) + k = omega arith in
    ap (λ (x : ℕ). n % 2 ^ x % 2 ^ k) e ∙ mod-mod-pow n (w - k) k

-- a part of a part
pub part_in_part : (n low wide at w : ℕ) → at + w ≤ wide → n / 2 ^ (low + at) % 2 ^ w ≡ n / 2 ^ low % 2 ^ wide / 2 ^ at % 2 ^ w
part_in_part n low wide at w h =
    let x : ℕ = n / 2 ^ low in
    let e : wide ≡ (wide - at) + at = omega arith in
    let below = mod_below x (2 ^ at) (pow_pos at) in
    let cut : x % 2 ^ wide / 2 ^ at ≡ x / 2 ^ at % 2 ^ (wide - at) =
    ap (λ (k : ℕ). x % 2 ^ k / 2 ^ at) e ∙ ap (λ (k : ℕ). k / 2 ^ at) (mod-pow-add x (wide - at) at)
    ∙ shr_high (x / 2 ^ at % 2 ^ (wide - at)) at (x % 2 ^ at) below in
    ap (λ (k : ℕ). k % 2 ^ w) (sym (shr-shr n low at))
    ∙ sym (ap (λ (k : ℕ). k % 2 ^ w) cut ∙ low_low (x / 2 ^ at) (wide - at) w (omega arith))

-- the number of a piece of bits
pub piece_at : (all front own rest : List Bool) (low w : ℕ) → all ≡ front ++ (own ++ rest) → length rest ≡ low → length own ≡ w
    → number_of all / 2 ^ low % 2 ^ w ≡ number_of own
piece_at all front own rest low w is below wide =
    let small = number_of-below rest in
    let few = number_of-below own in
    let n : number_of all ≡ number_of (front ++ own) * 2 ^ length rest + number_of rest =
    ap number_of (is ∙ sym (append_assoc front own rest)) ∙ number_of-append (front ++ own) rest in
    ap (λ (k : ℕ). number_of all / 2 ^ k % 2 ^ w) (sym below)
    ∙ ap (λ (k : ℕ). k / 2 ^ length rest % 2 ^ w) n
    ∙ ap (λ (k : ℕ). k % 2 ^ w) (shr_high (number_of (front ++ own)) (length rest) (number_of rest) small)
    ∙ ap (λ (k : ℕ). number_of (front ++ own) % 2 ^ k) (sym wide)
    ∙ ap (λ (k : ℕ). k % 2 ^ length own) (number_of-append front own)
    ∙ mod_low (number_of front) (length own) (number_of own) few

-- a number below so much, cut to the lesser of two widths
low_min : (f w k : ℕ) → f < 2 ^ w → f % 2 ^ min w k ≡ f % 2 ^ k
low_min f w k small = elim (cases_lt w k) [
  | inl lt ↦
      let e : min w k ≡ w = omega arith in
      ap (λ (x : ℕ). f % 2 ^ x) e ∙ low_whole f w w small (omega arith) ∙ sym (low_whole f w k small (omega arith))
  | inr ge ↦ let e : min w k ≡ k = omega arith in ap (λ (x : ℕ). f % 2 ^ x) e
]

-- the low bits of two parts that stand one after the other, where the second has fewer
pub joined_low : (f w r left k : ℕ) → f < 2 ^ w → r < 2 ^ left → left ≤ k → (f * 2 ^ left + r) % 2 ^ k
    ≡ f % 2 ^ min w (k - left) * 2 ^ left + r % 2 ^ k
joined_low f w r left k few small h =
    let n : ℕ = f * 2 ^ left + r in
    let e : k ≡ (k - left) + left = omega arith in
    ap (λ (x : ℕ). n % 2 ^ x) e ∙ mod-pow-add n (k - left) left
    ∙ ap (λ (x : ℕ). x % 2 ^ (k - left) * 2 ^ left + n % 2 ^ left) (shr_high f left r small)
    ∙ ap (λ (x : ℕ). f % 2 ^ (k - left) * 2 ^ left + x) (mod_low f left r small ∙ sym (low_whole r left k small h))
    ∙ ap (λ (x : ℕ). x * 2 ^ left + r % 2 ^ k) (sym (low_min f w (k - left) few))

-- the same, where the second has at least as many
pub joined_high : (f r left k : ℕ) → r < 2 ^ left → k ≤ left → (f * 2 ^ left + r) % 2 ^ k ≡ r % 2 ^ k
joined_high f r left k small h =
    sym (low_low (f * 2 ^ left + r) left k h) ∙ ap (λ (x : ℕ). x % 2 ^ k) (mod_low f left r small)
