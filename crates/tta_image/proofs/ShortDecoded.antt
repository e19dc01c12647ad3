-- The low bits of a word that a short field holds decode to the word.
use Rattle.std.proofs.Common.{◌≡◌, ℕ, zero, suc, ◌+◌, ◌-◌, ◌*◌, ◌/◌, ◌%◌, ◌^◌, ◌<◌, ◌≤◌, ◌==◌, Bool, true, false, ◌&&◌, ◌||◌, nat_lt, nat_le, if◌then◌else◌, slice_get, Option, Some, None, refl, sym, ap, ◌∙◌, inl, inr, arith}
use Rattle.std.specs.Option.{option_map_or}
use Rattle.std.specs.List.{list_all}
use Rattle.std.proofs.lemmas.Bool.{false≢true, and_parts, leb-true, ltb-true, le-leb, lt-leb}
use Rattle.std.proofs.lemmas.Nat.{pow_pos, pow-add, shr_split, mod-pow-add, mod_below, mod_low}
use Rattle.tta_list.proofs.Lists.{list_all_one}
use Rattle.tta_image.specs.Cited.{Bus, Machine, holds_word, is_source_on, short_width, is_bus}
use Rattle.tta_arch.specs.declared.ends.Source.TheVariants as source
use Rattle.tta_arch.proofs.Widths.{pow_le}
use Rattle.tta_image.specs.Decoding.{short_word, is_signed}
use Rattle.tta_image.proofs.BitLemmas.{low_whole}
use Rattle.tta_image.proofs.ShortWords.{IsHigh, is_high, odd_full}

-- a product with one factor made smaller by one
one_less : (q p : ℕ) → 0 < q → (q - 1) * p ≡ q * p - p
one_less zero p h = absurd (omega arith)
one_less (suc q) p h = let e : suc q - 1 ≡ q = omega arith in let d : suc q * p ≡ q * p + p = grind arith in rw e (omega arith)

-- the bits above the low w of a word
high_part : (w : ℕ) → w ≤ 32 → (2 ^ (32 - w) - 1) * 2 ^ w ≡ 2 ^ 32 - 2 ^ w
high_part w h =
    let e : 32 - w + w ≡ 32 = omega arith in
    let p : 2 ^ 32 ≡ 2 ^ (32 - w) * 2 ^ w = ap (λ (n : ℕ). 2 ^ n) (sym e) ∙ pow-add 2 (32 - w) w in
    let less = one_less (2 ^ (32 - w)) (2 ^ w) (pow_pos (32 - w)) in
    omega arith

-- a short word has the bits of its field
pub short_word-low : (signed : Bool) (w n : ℕ) → w ≤ 32 → n < 2 ^ w → short_word signed w n % 2 ^ w ≡ n
short_word-low signed w n h small = by (signed && nat_le (2 ^ (w - 1)) n) where
  by : (b : Bool) → (if b then n + (2 ^ 32 - 2 ^ w) else n) % 2 ^ w ≡ n
  by true =
      let high = high_part w h in
      let e : n + (2 ^ 32 - 2 ^ w) ≡ (2 ^ (32 - w) - 1) * 2 ^ w + n = omega arith in
      ap (λ (k : ℕ). k % 2 ^ w) e ∙ mod_low (2 ^ (32 - w) - 1) w n small
  by false = low_whole n w w small (omega arith)

-- a word whose upper bits, from the highest of the field on, are alike
signed_word : (w k x high : ℕ) → w ≡ 1 + k → w ≤ 32 → x / 2 ^ k ≡ high → IsHigh (2 ^ (33 - w) - 1) high → short_word true w (x % 2 ^ w) ≡ x
signed_word w k x high e most is (inl none) =
    let zero_high : x / 2 ^ k ≡ 0 = is ∙ none in
    let split = shr_split x k in
    let product : x / 2 ^ k * 2 ^ k ≡ 0 * 2 ^ k = ap (λ (q : ℕ). q * 2 ^ k) zero_high in
    let below = mod_below x (2 ^ k) (pow_pos k) in
    let small : x < 2 ^ k = omega arith in
    let f : w - 1 ≡ k = omega arith in
    rw (low_whole x k w small (omega arith), f, lt-leb (2 ^ k) x small) refl
signed_word w k x high e most is (inr full) =
    let full_high : x / 2 ^ k ≡ 2 ^ (33 - w) - 1 = is ∙ full in
    let split = shr_split x k in
    let product : x / 2 ^ k * 2 ^ k ≡ (2 ^ (33 - w) - 1) * 2 ^ k = ap (λ (q : ℕ). q * 2 ^ k) full_high in
    let g : 33 - w ≡ 32 - k = omega arith in
    let whole : (2 ^ (33 - w) - 1) * 2 ^ k ≡ 2 ^ 32 - 2 ^ k = ap (λ (n : ℕ). (2 ^ n - 1) * 2 ^ k) g ∙ high_part k (omega arith) in
    let odd : x / 2 ^ k % 2 ^ 1 ≡ 1 = ap (λ (n : ℕ). n % 2) full_high ∙ odd_full (33 - w) (omega arith) in
    let low : x % 2 ^ w ≡ 1 * 2 ^ k + x % 2 ^ k = ap (λ (n : ℕ). x % 2 ^ n) e ∙ mod-pow-add x 1 k ∙ ap (λ (n : ℕ). n * 2 ^ k + x % 2 ^ k) odd in
    let double : 2 ^ w ≡ 2 * 2 ^ k = ap (λ (n : ℕ). 2 ^ n) e ∙ pow-add 2 1 k in
    let fits = pow_le w 32 most in
    let f : w - 1 ≡ k = omega arith in
    let set : 2 ^ k ≤ x % 2 ^ w = omega arith in
    rw (f, le-leb (2 ^ k) (x % 2 ^ w) set) (omega arith)

short_word-low_bits : (b : Bus) (x : ℕ) → 1 ≤ b.short → b.short ≤ 32 → holds_word b x ≡ true → short_word b.signed b.short (x % 2 ^ b.short) ≡ x
short_word-low_bits b x least most h = by b.signed h where
  by : (s : Bool) → (if s then (x / 2 ^ (b.short - 1) == 0 || x / 2 ^ (b.short - 1) == 2 ^ (33 - b.short) - 1) else nat_lt x (2 ^ b.short)) ≡ true
      → short_word s b.short (x % 2 ^ b.short) ≡ x
  by true held =
      let e : b.short ≡ 1 + (b.short - 1) = omega arith in
      signed_word b.short (b.short - 1) x (x / 2 ^ (b.short - 1)) e most refl (is_high (2 ^ (33 - b.short) - 1) (x / 2 ^ (b.short - 1)) held)
  by false held = low_whole x b.short b.short (ltb-true x (2 ^ b.short) held) (omega arith)

-- the bits of a word that a bus holds decode to the word
pub value_decoded : (m : Machine) (bus x : ℕ) → list_all is_bus m.buses ≡ true → is_source_on m bus (source.Value x) ≡ true
    → short_word (is_signed m bus) (short_width m bus) (x % 2 ^ short_width m bus) ≡ x
value_decoded m bus x all h = by (slice_get m.buses bus) refl h where
  by : (o : Option Bus) → slice_get m.buses bus ≡ o → option_map_or (λ b. holds_word b x) o false ≡ true
      → short_word (option_map_or (λ b. b.signed) o false) (option_map_or (λ b. b.short) o 0) (x % 2 ^ option_map_or (λ b. b.short) o 0) ≡ x
  by None at held = absurd (false≢true held)
  by (Some b) at held =
      let range = and_parts (nat_le 1 b.short) (nat_le b.short 32) (list_all_one is_bus m.buses bus b all at) in
      short_word-low_bits b x (leb-true 1 b.short range.0) (leb-true b.short 32 range.1) held
