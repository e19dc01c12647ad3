-- Bits and fields at their places in bytes.
use Rattle.std.proofs.Common.{◌≡◌, ℕ, ◌+◌, ◌^◌, ◌<◌, ◌≤◌, Bool, true, false, List, length, take, drop, sym, ap, ◌∙◌, arith}
use Rattle.std.proofs.lemmas.List.{length-drop, length-take-le}
use Rattle.std.specs.List.{position_or_len}
use Rattle.std.proofs.lemmas.List.FromFn.{length-range_with_len, get_or-range_with_len}
use Rattle.std.proofs.lemmas.List.Sums.{position_or_len_is}
use Rattle.tta_image.specs.Cited.{has_bit, numbers}
use Rattle.tta_image.specs.Decoding.{field}
use Rattle.tta_image.proofs.Numbers.{number_of-below}

-- a field of so many bits is below so much
pub field_below : (bits : List Bool) (at width : ℕ) → at + width ≤ length bits → field at width bits < 2 ^ width
field_below bits at width inside =
    let d = length-drop at bits in
    let small = number_of-below (take width (drop at bits)) in
    let e : 2 ^ length (take width (drop at bits)) ≡ 2 ^ width = ap (λ (n : ℕ). 2 ^ n) (length-take-le width (drop at bits) (omega arith)) in
    omega arith

-- the least number whose bit is set, or how many numbers there are
pub least_is : (taken n bus : ℕ) → bus ≤ n → ((k : ℕ) → k < bus → has_bit taken k ≡ false) → (bus < n → has_bit taken bus ≡ true)
    → bus ≡ position_or_len (has_bit taken) (numbers n)
least_is taken n bus most below set =
    let many = length-range_with_len 0 n in
    let at = λ (k : ℕ) (lt : k < n). get_or-range_with_len 0 n k 0 lt in
    let zero_up : (k : ℕ) → 0 + k ≡ k = λ k. omega arith in
    sym (position_or_len_is (has_bit taken) (numbers n) bus 0 (omega arith)
    (λ k lt. ap (has_bit taken) (at k (omega arith) ∙ zero_up k) ∙ below k lt)
    (λ lt. let inside : bus < n = omega arith in ap (has_bit taken) (at bus inside ∙ zero_up bus) ∙ set inside))
