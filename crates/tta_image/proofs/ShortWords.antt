-- A short word is determined by the low bits that its field holds.
use Rattle.std.proofs.Common.{◌≡◌, ℕ, zero, suc, ◌+◌, ◌-◌, ◌*◌, ◌/◌, ◌%◌, ◌^◌, ◌<◌, ◌≤◌, ◌==◌, ◌⊎◌, Bool, true, false, ◌||◌, nat_lt, nat_le, if◌then◌else◌, slice_get, Option, Some, None, refl, sym, ap, ◌∙◌, inl, inr, arith}
use Rattle.std.specs.Option.{option_map_or}
use Rattle.std.specs.List.{list_all}
use Rattle.std.proofs.lemmas.Nat.{pow_pos, shr_split, mod-pow-add, mod_below, same_from_place}
use Rattle.std.proofs.lemmas.Bool.{false≢true, and_parts, or_cases, eqb-true, leb-true, ltb-true}
use Rattle.tta_list.proofs.Lists.{list_all_one}
use Rattle.tta_image.specs.Cited.{Bus, Machine, holds_word, is_source_on, short_width, is_bus}
use Rattle.tta_arch.specs.declared.ends.Source.TheVariants as source
use Rattle.tta_image.proofs.BitLemmas.{low_whole}

-- the bits above k are all 0 or all 1, where full is odd
abbrev pub IsHigh : (full high : ℕ) → Type 0
IsHigh full high = (high ≡ 0) ⊎ (high ≡ full)

same_high : (full a b : ℕ) → full % 2 ≡ 1 → IsHigh full a → IsHigh full b → a % 2 ≡ b % 2 → a ≡ b
same_high full a b odd (inl p) (inl q) same = omega arith
same_high full a b odd (inl p) (inr q) same = absurd (omega (arith, ap (λ (n : ℕ). n % 2) p, ap (λ (n : ℕ). n % 2) q))
same_high full a b odd (inr p) (inl q) same = absurd (omega (arith, ap (λ (n : ℕ). n % 2) p, ap (λ (n : ℕ). n % 2) q))
same_high full a b odd (inr p) (inr q) same = p ∙ sym q

signed_tells : (k full x y : ℕ) → full % 2 ≡ 1 → IsHigh full (x / 2 ^ k) → IsHigh full (y / 2 ^ k) → x % 2 ^ (1 + k) ≡ y % 2 ^ (1 + k) → x ≡ y
signed_tells k full x y odd hx hy same =
    let places : x / 2 ^ k % 2 ^ 1 * 2 ^ k + x % 2 ^ k ≡ y / 2 ^ k % 2 ^ 1 * 2 ^ k + y % 2 ^ k = sym (mod-pow-add x 1 k) ∙ same ∙ mod-pow-add y 1 k in
    let parts = same_from_place (x / 2 ^ k % 2 ^ 1) (x % 2 ^ k) (y / 2 ^ k % 2 ^ 1) (y % 2 ^ k) (2 ^ k) (mod_below x (2 ^ k) (pow_pos k)) (mod_below y (2 ^ k) (pow_pos k)) places in
    let high : x / 2 ^ k ≡ y / 2 ^ k = same_high full (x / 2 ^ k) (y / 2 ^ k) odd hx hy parts.0 in
    sym (shr_split x k) ∙ ap (λ (h : ℕ). h * 2 ^ k + x % 2 ^ k) high ∙ ap (λ (l : ℕ). y / 2 ^ k * 2 ^ k + l) parts.1 ∙ shr_split y k

pub is_high : (full high : ℕ) → (high == 0 || high == full) ≡ true → IsHigh full high
is_high full high h = elim (or_cases (high == 0) (high == full) h) [ inl p ↦ inl (eqb-true high 0 p) | inr q ↦ inr (eqb-true high full q) ]

pub odd_full : (n : ℕ) → 0 < n → (2 ^ n - 1) % 2 ≡ 1
odd_full zero h = absurd (omega arith)
odd_full (suc n) h = let p : 2 ^ suc n ≡ 2 * 2 ^ n = omega arith in let some = pow_pos n in omega arith

word_tells : (b : Bus) (x y : ℕ) → 1 ≤ b.short → b.short ≤ 32 → holds_word b x ≡ true → holds_word b y ≡ true → x % 2 ^ b.short ≡ y % 2 ^ b.short → x ≡ y
word_tells b x y least most hx hy same = by b.signed hx hy where
  k : ℕ
  k = b.short - 1

  full : ℕ
  full = 2 ^ (33 - b.short) - 1

  by : (s : Bool) → (if s then (x / 2 ^ (b.short - 1) == 0 || x / 2 ^ (b.short - 1) == 2 ^ (33 - b.short) - 1) else nat_lt x (2 ^ b.short)) ≡ true
      → (if s then (y / 2 ^ (b.short - 1) == 0 || y / 2 ^ (b.short - 1) == 2 ^ (33 - b.short) - 1) else nat_lt y (2 ^ b.short)) ≡ true → x ≡ y
  by true px py =
      let e : b.short ≡ 1 + (b.short - 1) = omega arith in
      signed_tells (b.short - 1) (2 ^ (33 - b.short) - 1) x y (odd_full (33 - b.short) (omega arith)) (is_high (2 ^ (33 - b.short) - 1) (x / 2 ^ (b.short - 1)) px) (is_high (2 ^ (33 - b.short) - 1) (y / 2 ^ (b.short - 1)) py)
      (ap (λ (n : ℕ). x % 2 ^ n) (sym e) ∙ same ∙ ap (λ (n : ℕ). y % 2 ^ n) e)
  by false px py =
      sym (low_whole x b.short b.short (ltb-true x (2 ^ b.short) px) (omega arith)) ∙ same ∙ low_whole y b.short b.short (ltb-true y (2 ^ b.short) py) (omega arith)

-- short words of one bus with the same low bits are one
pub value_tells : (m : Machine) (bus x y : ℕ) → list_all is_bus m.buses ≡ true → is_source_on m bus (source.Value x) ≡ true → is_source_on m bus (source.Value y) ≡ true
    → x % 2 ^ short_width m bus ≡ y % 2 ^ short_width m bus → x ≡ y
value_tells m bus x y all hx hy same = by (slice_get m.buses bus) refl hx hy same where
  by : (o : Option Bus) → slice_get m.buses bus ≡ o → option_map_or (λ b. holds_word b x) o false ≡ true → option_map_or (λ b. holds_word b y) o false ≡ true
      → x % 2 ^ option_map_or (λ b. b.short) o 0 ≡ y % 2 ^ option_map_or (λ b. b.short) o 0 → x ≡ y
  by None at px py e = absurd (false≢true px)
  by (Some b) at px py e =
      let range = and_parts (nat_le 1 b.short) (nat_le b.short 32) (list_all_one is_bus m.buses bus b all at) in
      word_tells b x y (leb-true 1 b.short range.0) (leb-true b.short 32 range.1) px py e
