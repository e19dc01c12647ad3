-- Sets of units, as words of bits.
use Rattle.std.proofs.Common.{◌≡◌, ◌≢◌, ◌<◌, ◌≤◌, ◌/◌, ◌%◌, ◌*◌, ◌-◌, ◌^◌, ℕ, ◌+◌, zero, suc, Bool, true, false, List, length, get_or, set, refl, sym, ap, ◌∙◌, inl, inr, arith, min, max, w64}
use Rattle.std.specs.Prelude.{◌==◌, ◌||◌, ◌&&◌, not, bit_and, bit_or, nat_le, nat_lt}
use Rattle.std.specs.Int.{bit_at, trailing_zeros}
use Rattle.std.proofs.lemmas.Bool.{cases_eq, eq-eqb, ne_eqb}
use Rattle.std.proofs.lemmas.Nat.Bits.{bit_at-zero, bit_at_and, bit_at_or, bit_at_not, bit_at-lt, bit_at-pow_same, bit_at-pow_other, bit_at_mask_inside, bit_at_mask_below, bit_at_mask_above, bit_at-trailing_zeros}
use Rattle.std.proofs.Common.{get_or-set_same, get_or-set_other}
use Rattle.std.proofs.lemmas.Nat.{pow-add, pow_pos}
use Rattle.std.proofs.Math.Nat.{mul-sub, mul_comm, mul-one, mod-eq_of_lt}
use Rattle.std.proofs.Math.Pow.{pow_mono}
use Rattle.std.proofs.Math.Bool.{or-false, and-true}

-- ---- one word

min_one : (x : ℕ) → x < 2 → min x 1 ≡ x
min_one zero small = refl
min_one (suc zero) small = refl
min_one (suc (suc x)) small = absurd (omega arith)

min_none : (x : ℕ) → min x 0 ≡ 0
min_none x = grind arith

-- the least bit is one that is set
pub least_is_set : (word : ℕ) → 0 < word → word < 2 ^ 64 → bit_at word (trailing_zeros w64 word) ≡ 1
least_is_set word some small = (bit_at-trailing_zeros w64 word some small).1

-- no bit stands before the least
pub least_first : (word i : ℕ) → 0 < word → word < 2 ^ 64 → i < trailing_zeros w64 word → bit_at word i ≡ 0
least_first word i some small below = (bit_at-trailing_zeros w64 word some small).2 i below

-- the word of no bits
pub no_bit : (word i : ℕ) → word ≡ 0 → bit_at word i ≡ 0
no_bit word i none = ap (λ n. bit_at n i) none ∙ bit_at-zero i

-- the other bits stay
pub other_bits : (word one bit i : ℕ) → one ≡ 2 ^ bit → one < 2 ^ 64 → i ≢ bit → i < 64
    → bit_at (bit_and word (18446744073709551615 - one)) i ≡ bit_at word i
other_bits word one bit i single small other below =
    bit_at_and word (18446744073709551615 - one) i ∙ ap (min (bit_at word i)) (bit_at_not w64 one i small below)
    ∙ ap (λ n. min (bit_at word i) (1 - n)) (ap (λ n. bit_at n i) single ∙ bit_at-pow_other bit i other) ∙ min_one (bit_at word i) (bit_at-lt word i)

-- and this one is gone
pub this_bit_gone : (word one bit : ℕ) → one ≡ 2 ^ bit → one < 2 ^ 64 → bit < 64 → bit_at (bit_and word (18446744073709551615 - one)) bit ≡ 0
this_bit_gone word one bit single small below =
    bit_at_and word (18446744073709551615 - one) bit ∙ ap (min (bit_at word bit)) (bit_at_not w64 one bit small below)
    ∙ ap (λ n. min (bit_at word bit) (1 - n)) (ap (λ n. bit_at n bit) single ∙ bit_at-pow_same bit) ∙ min_none (bit_at word bit)

-- a bit that is set does not stand before a place before which none is
pub no_bit_before : (at first bit word : ℕ) → ((i : ℕ) → first + i < at → bit_at word i ≡ 0) → bit_at word bit ≡ 1 → at ≤ first + bit
no_bit_before at first bit word none set = elim (nat_le at (first + bit)) as (λ b. nat_le at (first + bit) ≡ b → at ≤ first + bit) [
  | true ↦ λ is. grind (arith, is)
  | false ↦ λ is.
      let before : first + bit < at = grind (arith, is) in
      let off = none bit before in
      absurd (omega (arith, off, set))
] refl

-- no bit stands at or before the least one once that is gone
pub none_up_to : (bit i word left : ℕ) → i < bit + 1 → bit < 64 → ((j : ℕ) → j < bit → bit_at word j ≡ 0) → bit_at left bit ≡ 0
    → ((j : ℕ) → j ≢ bit → j < 64 → bit_at left j ≡ bit_at word j) → bit_at left i ≡ 0
none_up_to bit i word left up few none gone others = elim (cases_eq i bit) [
  | inl same ↦ ap (bit_at left) same ∙ gone
  | inr other ↦
      let before : i < bit = omega (arith, up, other) in
      others i other (omega (arith, before, few)) ∙ none i before
]

either_bit : (x y : ℕ) → x < 2 → y < 2 → (max x y == 1) ≡ (x == 1 || y == 1)
either_bit zero zero hx hy = refl
either_bit zero (suc zero) hx hy = refl
either_bit (suc zero) zero hx hy = refl
either_bit (suc zero) (suc zero) hx hy = refl
either_bit (suc (suc x)) y hx hy = absurd (omega arith)
either_bit x (suc (suc y)) hx hy = absurd (omega arith)

both_bits : (x y : ℕ) → x < 2 → y < 2 → (min x (1 - y) == 1) ≡ (x == 1 && not (y == 1))
both_bits zero zero hx hy = refl
both_bits zero (suc zero) hx hy = refl
both_bits (suc zero) zero hx hy = refl
both_bits (suc zero) (suc zero) hx hy = refl
both_bits (suc (suc x)) y hx hy = absurd (omega arith)
both_bits x (suc (suc y)) hx hy = absurd (omega arith)

-- ---- words in a row

-- the bit of a word among others
abbrev pub bit_in : List ℕ → ℕ → Bool
bit_in words k = bit_at (get_or words (k / 64) 0) (k % 64) == 1

-- whether a bit of a word is this one, where the word is that of this one
same_bit : (bit k : ℕ) → k / 64 ≡ bit / 64 → (bit_at (2 ^ (bit % 64)) (k % 64) == 1) ≡ (bit == k)
same_bit bit k e = elim (cases_eq (k % 64) (bit % 64)) [
  | inl same ↦
      let alike : bit ≡ k = omega (arith, e, same) in
      ap (λ n. bit_at (2 ^ (bit % 64)) n == 1) same ∙ ap (λ n. n == 1) (bit_at-pow_same (bit % 64)) ∙ sym (eq-eqb bit k alike)
  | inr differ ↦
      ap (λ n. n == 1) (bit_at-pow_other (bit % 64) (k % 64) differ) ∙ sym (ne_eqb bit k (λ s. differ (ap (λ n. n % 64) (sym s))))
]

module _ (words : List ℕ) (bit k one : ℕ) (below : bit / 64 < length words) (single : one ≡ 2 ^ (bit % 64)) where
  -- a bit is read from the word that is replaced, or is as before
  replaced : (word : ℕ) (test : Bool) → (k / 64 ≡ bit / 64 → (bit_at word (k % 64) == 1) ≡ test) → ((bit == k) ≡ false → bit_in words k ≡ test)
      → bit_in (set words (bit / 64) word) k ≡ test
  replaced word test here there = elim (cases_eq (k / 64) (bit / 64)) [
    | inl e ↦
        ap (λ n. bit_at n (k % 64) == 1) (ap (λ i. get_or (set words (bit / 64) word) i 0) e ∙ get_or-set_same words (bit / 64) word 0 below) ∙ here e
    | inr other ↦
        ap (λ n. bit_at n (k % 64) == 1) (get_or-set_other words (bit / 64) (k / 64) word 0 other)
        ∙ there (ne_eqb bit k (λ e. other (ap (λ n. n / 64) (sym e))))
  ]

  had : k / 64 ≡ bit / 64 → (bit_at (get_or words (bit / 64) 0) (k % 64) == 1) ≡ bit_in words k
  had e = ap (λ i. bit_at (get_or words i 0) (k % 64) == 1) (sym e)

  is_one : k / 64 ≡ bit / 64 → (bit_at one (k % 64) == 1) ≡ (bit == k)
  is_one e = ap (λ n. bit_at n (k % 64) == 1) single ∙ same_bit bit k e

  pub set_bit : bit_in (set words (bit / 64) (bit_or (get_or words (bit / 64) 0) one)) k ≡ (bit_in words k || bit == k)
  set_bit = replaced (bit_or (get_or words (bit / 64) 0) one) (bit_in words k || bit == k)
      (λ e. ap (λ n. n == 1) (bit_at_or (get_or words (bit / 64) 0) one (k % 64))
      ∙ either_bit (bit_at (get_or words (bit / 64) 0) (k % 64)) (bit_at one (k % 64)) (bit_at-lt (get_or words (bit / 64) 0) (k % 64)) (bit_at-lt one (k % 64))
      ∙ ap (λ b. b || bit_at one (k % 64) == 1) (had e) ∙ ap (λ b. bit_in words k || b) (is_one e))
      (λ other. sym (ap (λ b. bit_in words k || b) other ∙ or-false (bit_in words k)))

  pub unset_bit : one < 2 ^ 64 → bit_in (set words (bit / 64) (bit_and (get_or words (bit / 64) 0) (18446744073709551615 - one))) k ≡ (bit_in words k && not (bit == k))
  unset_bit small = replaced (bit_and (get_or words (bit / 64) 0) (18446744073709551615 - one)) (bit_in words k && not (bit == k))
      (λ e. ap (λ n. n == 1) (bit_at_and (get_or words (bit / 64) 0) (18446744073709551615 - one) (k % 64))
      ∙ ap (λ n. min (bit_at (get_or words (bit / 64) 0) (k % 64)) n == 1) (bit_at_not w64 one (k % 64) small (omega arith))
      ∙ both_bits (bit_at (get_or words (bit / 64) 0) (k % 64)) (bit_at one (k % 64)) (bit_at-lt (get_or words (bit / 64) 0) (k % 64)) (bit_at-lt one (k % 64))
      ∙ ap (λ b. b && not (bit_at one (k % 64) == 1)) (had e) ∙ ap (λ b. bit_in words k && not b) (is_one e))
      (λ other. sym (ap (λ b. bit_in words k && not b) other ∙ and-true (bit_in words k)))

-- ---- some bits of one word

-- bits in a row are the difference of two powers
pub one_to_many : (low high one : ℕ) → low ≤ high → high ≤ 64 → one ≡ 2 ^ (high - low) → (one - 1) * 2 ^ low % 18446744073709551616 ≡ 2 ^ high - 2 ^ low
one_to_many low high one order last is =
    let steps : high - low + low ≡ high = omega (arith, order) in
    let product : 2 ^ low * one ≡ 2 ^ high = ap (λ n. 2 ^ low * n) is ∙ mul_comm (2 ^ low) (2 ^ (high - low)) ∙ sym (pow-add 2 (high - low) low) ∙ ap (λ n. 2 ^ n) steps in
    let less : (one - 1) * 2 ^ low ≡ 2 ^ high - 2 ^ low =
    mul_comm (one - 1) (2 ^ low) ∙ mul-sub (2 ^ low) one 1 ∙ ap (λ n. n - 2 ^ low * 1) product ∙ ap (λ n. 2 ^ high - n) (mul-one (2 ^ low)) in
    let most : 2 ^ high ≤ 2 ^ 64 = pow_mono last in
    let some : 0 < 2 ^ low = pow_pos low in
    let least : 2 ^ low ≤ 2 ^ high = pow_mono order in
    let small : 2 ^ high - 2 ^ low < 18446744073709551616 = omega (arith, most, some, least) in
    ap (λ n. n % 18446744073709551616) less ∙ mod-eq_of_lt small

module _ (number from end k low high some : ℕ) (single : some ≡ 2 ^ high - 2 ^ low) (low_is : low ≡ from - 64 * number) (high_is : high ≡ min (end - 64 * number) 64) where
  -- they are those of the units from one on and before an end
  pub between : k / 64 ≡ number → (bit_at some (k % 64) == 1) ≡ (nat_le from k && nat_lt k end)
  between here = elim (nat_le from k) as (λ b. nat_le from k ≡ b → (bit_at some (k % 64) == 1) ≡ (b && nat_lt k end)) [
    | false ↦ λ is.
        let before : k < from = grind (arith, is) in
        let below : k % 64 < low = omega (arith, before, here, low_is) in
        ap (λ n. n == 1) (ap (λ n. bit_at n (k % 64)) single ∙ bit_at_mask_below low high (k % 64) below)
    | true ↦ λ is. elim (nat_lt k end) as (λ b. nat_lt k end ≡ b → (bit_at some (k % 64) == 1) ≡ b) [
      | false ↦ λ past.
          let after : end ≤ k = grind (arith, past) in
          let above : high ≤ k % 64 = grind (arith, after, here, high_is) in
          ap (λ n. n == 1) (ap (λ n. bit_at n (k % 64)) single ∙ bit_at_mask_above low high (k % 64) above)
      | true ↦ λ within.
          let from_it : low ≤ k % 64 = grind (arith, is, here, low_is) in
          let to_it : k % 64 < high = grind (arith, within, here, high_is) in
          ap (λ n. n == 1) (ap (λ n. bit_at n (k % 64)) single ∙ bit_at_mask_inside low high (k % 64) from_it to_it)
    ] refl
  ] refl

module _ (words : List ℕ) (number k some : ℕ) (there : number < length words) (small : some < 2 ^ 64) where
  pub bits_removed : bit_in (set words number (bit_and (get_or words number 0) (18446744073709551615 - some))) k
      ≡ (bit_in words k && not (k / 64 == number && bit_at some (k % 64) == 1))
  bits_removed = elim (cases_eq (k / 64) number) [
    | inl here ↦
        let word : ℕ = bit_and (get_or words number 0) (18446744073709551615 - some) in
        let old : ℕ = get_or words number 0 in
        let is : (k / 64 == number) ≡ true = eq-eqb (k / 64) number here in
        ap (λ n. bit_at n (k % 64) == 1) (ap (λ i. get_or (set words number word) i 0) here ∙ get_or-set_same words number word 0 there)
        ∙ ap (λ n. n == 1) (bit_at_and old (18446744073709551615 - some) (k % 64))
        ∙ ap (λ n. min (bit_at old (k % 64)) n == 1) (bit_at_not w64 some (k % 64) small (omega arith))
        ∙ both_bits (bit_at old (k % 64)) (bit_at some (k % 64)) (bit_at-lt old (k % 64)) (bit_at-lt some (k % 64))
        ∙ ap (λ b. b && not (bit_at some (k % 64) == 1)) (ap (λ i. bit_at (get_or words i 0) (k % 64) == 1) (sym here))
        ∙ ap (λ b. bit_in words k && not (b && bit_at some (k % 64) == 1)) (sym is)
    | inr other ↦
        let word : ℕ = bit_and (get_or words number 0) (18446744073709551615 - some) in
        let is : (k / 64 == number) ≡ false = ne_eqb (k / 64) number other in
        ap (λ n. bit_at n (k % 64) == 1) (get_or-set_other words number (k / 64) word 0 other)
        ∙ sym (ap (λ b. bit_in words k && not (b && bit_at some (k % 64) == 1)) is ∙ and-true (bit_in words k))
  ]

-- ---- some bits of a word

min_off : (x y : ℕ) → y ≡ 1 → x < 2 → min x y ≡ 0 → x ≡ 0
min_off x y is small off = sym (min_one x small) ∙ ap (min x) (sym is) ∙ off

min_on : (x y : ℕ) → y < 2 → min x y ≡ 1 → y ≡ 1
min_on x zero small is = absurd (let none : min x 0 ≡ 0 = min_none x in omega (arith, none, is))
min_on x (suc zero) small is = refl
min_on x (suc (suc y)) small is = absurd (omega arith)

-- one of these bits that a word lacks too
pub bit_lacks : (word among i : ℕ) → bit_at among i ≡ 1 → bit_at (bit_and word among) i ≡ 0 → bit_at word i ≡ 0
bit_lacks word among i is off = min_off (bit_at word i) (bit_at among i) is (bit_at-lt word i) (sym (bit_at_and word among i) ∙ off)

-- what a word has of these bits is one of them
pub bit_among : (word among i : ℕ) → bit_at (bit_and word among) i ≡ 1 → bit_at among i ≡ 1
bit_among word among i is = min_on (bit_at word i) (bit_at among i) (bit_at-lt among i) (sym (bit_at_and word among i) ∙ is)
