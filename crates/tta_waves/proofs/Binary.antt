-- A word in binary, bit by bit.
use Rattle.std.proofs.Common.{◌≡◌, ℕ, zero, suc, ◌+◌, ◌-◌, ◌<◌, ◌≤◌, ◌/◌, Bool, ◌++◌, sym, ap, ◌∙◌, arith}
use Rattle.std.specs.Prelude.{if◌then◌else◌}
use Rattle.std.proofs.lemmas.Bool.{lt-ltb, le-ltb}
use Rattle.tta_waves.specs.Dump.{binary_of, bit_text}

-- a word of one bit is that bit
pub one_bit : (bits word : ℕ) → 0 < bits → word < 2 → binary_of bits word ≡ bit_text word
one_bit zero word some below = absurd (omega (arith, some))
one_bit (suc bits) word some below = ap (λ (b : Bool). if b then bit_text word else binary_of bits (word / 2) ++ bit_text word) (lt-ltb word 2 below)

-- a longer one is its half and its lowest bit
pub more_bits : (bits word : ℕ) → 0 < bits → 2 ≤ word → binary_of bits word ≡ binary_of (bits - 1) (word / 2) ++ bit_text word
more_bits zero word some above = absurd (omega (arith, some))
more_bits (suc bits) word some above =
    let less : suc bits - 1 ≡ bits = omega arith in
    ap (λ (b : Bool). if b then bit_text word else binary_of bits (word / 2) ++ bit_text word) (le-ltb word 2 above)
    ∙ sym (ap (λ n. binary_of n (word / 2) ++ bit_text word) less)
