-- Bits of a word, one after another: zeros and ones that are counted, and bits in the other order.
use Rattle.std.proofs.Common.{◌≡◌, ℕ, zero, suc, ◌<◌, ◌≤◌, ◌+◌, ◌*◌, ◌/◌, ◌%◌, ◌^◌, ◌-◌, List, refl, sym, ap, ◌∙◌, subst, arith}
use Rattle.std.specs.Prelude.{if◌then◌else◌, count_ones}
use Rattle.std.specs.Int.{w32, leading_zeros, reverse_bits, reverse_bits_onto}
use Rattle.std.specs.Int.Count.{ones_step, ones-le, leading_unique}
use Rattle.std.proofs.Math.Nat.{div-add-mod, pow-suc, div-div-eq-div-mul}
use Rattle.std.proofs.lemmas.Nat.{pow_pos, pow-add, mod_below, div_below}
use Rattle.tta_bits.specs.Cited.{Units, Expr, Slice, Join, is_set, value, Port, Second, b}
use Rattle.tta_bits.specs.Circuits.{zeros_above, ones_from, reversed_onto}

next_bit : (x k : ℕ) → x / 2 ^ k / 2 ≡ x / 2 ^ (k + 1)
next_bit x k = div-div-eq-div-mul x (2 ^ k) 2 ∙ ap (λ t. x / t) (sym (pow-add 2 k 1))

module _ (u : Units) (ms : ⊥ → List ℕ) (env : Port → ℕ) where
  -- the digit at k says whether the zeros go on below it
  zero_more : (k q : ℕ) → (env Second < 2 ^ k → value u ms env (zeros_above k) ≡ leading_zeros w32 (env Second)) → suc k ≤ 32
      → env Second < 2 ^ suc k → 2 ^ suc k ≡ 2 ^ k * 2 → 2 ^ k * q + env Second % 2 ^ k ≡ env Second → env Second % 2 ^ k < 2 ^ k → q < 2
      → (if is_set (q % 2 ^ 1) then 31 - k else value u ms env (zeros_above k)) ≡ leading_zeros w32 (env Second)
  zero_more k zero lower few below half split rest small = lower (omega (arith, split, rest))
  zero_more k (suc zero) lower few below half split rest small =
      leading_unique 32 (env Second) (31 - k) (suc k) (omega (arith, few)) below (omega (arith, split, half))
  zero_more k (suc (suc q)) lower few below half split rest small = absurd (omega (arith, small))

  pub zeros_is : (k : ℕ) → k ≤ 32 → env Second < 2 ^ k → value u ms env (zeros_above k) ≡ leading_zeros w32 (env Second)
  unfolding zeros_above
  zeros_is zero few below = leading_unique 32 (env Second) 32 0 (omega arith) below (omega arith)
  zeros_is (suc k) few below =
      let half : 2 ^ suc k ≡ 2 ^ k * 2 = pow-suc 2 k in
      zero_more k (env Second / 2 ^ k) (λ less. zeros_is k (omega (arith, few)) less) few below half (div-add-mod (env Second) (2 ^ k))
      (mod_below (env Second) (2 ^ k) (pow_pos k)) (div_below (env Second) (2 ^ k) 2 (pow_pos k) (omega (arith, below, half)))

  pub ones_is : (count first : ℕ) → count ≤ 32 → env Second / 2 ^ first < 2 ^ count
      → value u ms env (ones_from count first) ≡ count_ones (env Second / 2 ^ first)
  unfolding ones_from
  ones_is zero first few below = omega (arith, ones-le 0 (env Second / 2 ^ first) below)
  ones_is (suc n) first few below =
      let x : ℕ = env Second / 2 ^ first in
      let later : x / 2 ≡ env Second / 2 ^ (first + 1) = next_bit (env Second) first in
      let half : x / 2 < 2 ^ n = div_below x 2 (2 ^ n) (omega arith) (omega (arith, below, pow-suc 2 n)) in
      let ones : value u ms env (ones_from n (first + 1)) ≡ count_ones (x / 2) =
      ones_is n (first + 1) (omega (arith, few)) (subst (λ t. t < 2 ^ n) later half) ∙ ap count_ones (sym later) in
      let most : count_ones (x / 2) ≤ n = ones-le n (x / 2) half in
      let fits : (0 * 2 ^ 1 + x % 2 ^ 1 + count_ones (x / 2)) % 2 ^ 6 ≡ x % 2 + count_ones (x / 2) = omega (arith, most, few) in
      ap (λ t. (0 * 2 ^ 1 + x % 2 ^ 1 + t) % 2 ^ 6) ones ∙ fits ∙ sym (ones_step x)

  pub reversed_is : (count first : ℕ) (done : Expr Port ⊥)
      → value u ms env (reversed_onto count first done) ≡ reverse_bits_onto count (env Second / 2 ^ first) (value u ms env done)
  unfolding reversed_onto reverse_bits_onto
  reversed_is zero first done = refl
  reversed_is (suc n) first done =
      reversed_is n (first + 1) (Join 1 done (Slice first 1 b))
      ∙ ap (λ t. reverse_bits_onto n t (value u ms env done * 2 ^ 1 + env Second / 2 ^ first % 2 ^ 1)) (sym (next_bit (env Second) first))

pub reversed_all : (x : ℕ) → reverse_bits_onto 31 (x / 2 ^ 1) (x / 2 ^ 0 % 2 ^ 1) ≡ reverse_bits w32 x
unfolding reverse_bits_onto
reversed_all x =
    let first : x / 1 % 2 ≡ 0 * 2 + x % 2 = omega arith in
    ap (reverse_bits_onto 31 (x / 2)) first
