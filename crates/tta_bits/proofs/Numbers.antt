-- Words as signed numbers: low bits with their sign, and which of two is less.
use Rattle.std.proofs.Common.{◌≡◌, ℕ, ◌<◌, ◌≤◌, ◌+◌, ◌*◌, ◌/◌, ◌%◌, ◌^◌, ◌-◌, Bool, true, false, not, nat_lt, ap, ◌∙◌, refl, arith}
use Rattle.std.specs.Prelude.{if◌then◌else◌}
use Rattle.std.proofs.lemmas.Bool.{ltb-true, ltb-false}
use Rattle.tta_op_circuits.proofs.Stages.{set_bit}
use Rattle.tta_op_circuits.proofs.Words.{top_bit}
use Rattle.tta_bits.specs.Cited.{bit, is_set}
use Rattle.tta_bits.specs.Bits.{extended}
use Rattle.tta_bits.specs.Signed.{is_less}

-- ---- low bits with their sign

extended_8 : (c : Bool) (x : ℕ) → (c ≡ true → x % 256 < 128) → (c ≡ false → 128 ≤ x % 256)
    → (if is_set (x / 2 ^ 7 % 2 ^ 1) then 2 ^ 24 - 1 else 0) * 2 ^ 8 + x / 2 ^ 0 % 2 ^ 8 ≡ x % 2 ^ 8 + (if c then 0 else 2 ^ 32 - 2 ^ 8)
extended_8 true x small large =
    let top : x / 2 ^ 7 % 2 ^ 1 ≡ 0 = omega (arith, small refl) in
    ap (λ t. (if is_set t then 2 ^ 24 - 1 else 0) * 2 ^ 8 + x / 2 ^ 0 % 2 ^ 8) top ∙ omega arith
extended_8 false x small large =
    let top : x / 2 ^ 7 % 2 ^ 1 ≡ 1 = omega (arith, large refl) in
    ap (λ t. (if is_set t then 2 ^ 24 - 1 else 0) * 2 ^ 8 + x / 2 ^ 0 % 2 ^ 8) top ∙ omega arith

pub byte_is : (x : ℕ) → (if is_set (x / 2 ^ 7 % 2 ^ 1) then 2 ^ 24 - 1 else 0) * 2 ^ 8 + x / 2 ^ 0 % 2 ^ 8 ≡ extended 8 x
byte_is x =
    extended_8 (nat_lt (x % 256) 128) x (λ h. ltb-true (x % 256) 128 h) (λ h. ltb-false (x % 256) 128 h)

extended_16 : (c : Bool) (x : ℕ) → (c ≡ true → x % 65536 < 32768) → (c ≡ false → 32768 ≤ x % 65536)
    → (if is_set (x / 2 ^ 15 % 2 ^ 1) then 2 ^ 16 - 1 else 0) * 2 ^ 16 + x / 2 ^ 0 % 2 ^ 16
    ≡ x % 2 ^ 16 + (if c then 0 else 2 ^ 32 - 2 ^ 16)
extended_16 true x small large =
    let top : x / 2 ^ 15 % 2 ^ 1 ≡ 0 = omega (arith, small refl) in
    ap (λ t. (if is_set t then 2 ^ 16 - 1 else 0) * 2 ^ 16 + x / 2 ^ 0 % 2 ^ 16) top ∙ omega arith
extended_16 false x small large =
    let top : x / 2 ^ 15 % 2 ^ 1 ≡ 1 = omega (arith, large refl) in
    ap (λ t. (if is_set t then 2 ^ 16 - 1 else 0) * 2 ^ 16 + x / 2 ^ 0 % 2 ^ 16) top ∙ omega arith

pub half_is : (x : ℕ) → (if is_set (x / 2 ^ 15 % 2 ^ 1) then 2 ^ 16 - 1 else 0) * 2 ^ 16 + x / 2 ^ 0 % 2 ^ 16 ≡ extended 16 x
half_is x =
    extended_16 (nat_lt (x % 65536) 32768) x (λ h. ltb-true (x % 65536) 32768 h) (λ h. ltb-false (x % 65536) 32768 h)

-- ---- which of two is less

-- a word whose top bit is turned, as wires make it
abbrev lifted_wire : ℕ → ℕ
lifted_wire x = bit (not (is_set (x / 2 ^ 31 % 2 ^ 1))) * 2 ^ 31 + x / 2 ^ 0 % 2 ^ 31

lifted_sum : (c : Bool) (x : ℕ) → (c ≡ true → x < 2 ^ 31) → (c ≡ false → 2 ^ 31 ≤ x) → x < 2 ^ 32
    → bit (not (is_set (bit (not c)))) * 2 ^ 31 + x / 2 ^ 0 % 2 ^ 31 ≡ (x + 2 ^ 31) % 2 ^ 32
lifted_sum true x small large word = omega (arith, small refl)
lifted_sum false x small large word = omega (arith, large refl, word)

lifted_is : (x : ℕ) → x < 2 ^ 32 → lifted_wire x ≡ (x + 2 ^ 31) % 2 ^ 32
lifted_is x word =
    ap (λ t. bit (not (is_set t)) * 2 ^ 31 + x / 2 ^ 0 % 2 ^ 31) (top_bit x word)
    ∙ lifted_sum (nat_lt x (2 ^ 31)) x (λ h. ltb-true x (2 ^ 31) h) (λ h. ltb-false x (2 ^ 31) h) word

pub less_is : (x y : ℕ) → x < 2 ^ 32 → y < 2 ^ 32 → is_set (bit (nat_lt (lifted_wire x) (lifted_wire y))) ≡ is_less x y
less_is x y x_word y_word =
    ap (λ s. is_set (bit (nat_lt s (lifted_wire y)))) (lifted_is x x_word)
    ∙ ap (λ s. is_set (bit (nat_lt ((x + 2 ^ 31) % 2 ^ 32) s))) (lifted_is y y_word)
    ∙ set_bit (is_less x y)
