-- The digits of words whose bits stand in bytes.
use Rattle.std.proofs.Common.{◌≡◌, ℕ, zero, suc, ◌+◌, ◌-◌, ◌*◌, ◌/◌, ◌%◌, ◌^◌, ◌<◌, ◌≤◌, Bool, false, List, [], ◌∷◌, ◌++◌, length, map, take, drop, get_or, refl, sym, ap, ◌∙◌, arith}
use Rattle.std.specs.Prelude.{◌==◌}
use Rattle.std.specs.List.{flat_map, enumerate_from, range_with_len}
use Rattle.std.proofs.lemmas.List.{length-drop, length-take-le}
use Rattle.tta_rtl.specs.Cited.{bits_of, bits_in, field, number_of, bits_text}
use Rattle.tta_image.proofs.Numbers.{bits_of-number_of}
use Rattle.tta_image.proofs.Unique.{length-bytes}
use Rattle.tta_rtl.specs.Memories.{bit_in, digit, digits}

-- one digit, and then the rest
pub digits_more : (bytes : List ℕ) (at width : ℕ) → 0 < width → digits bytes at width ≡ digit (bit_in bytes at) ++ digits bytes (at + 1) (width - 1)
digits_more bytes at zero some = absurd (omega arith)
digits_more bytes at (suc w) some =
    let e : suc w - 1 ≡ w = omega arith in
    sym (ap (λ (n : ℕ). digit (bit_in bytes at) ++ digits bytes (at + 1) n) e)

-- a word in so many bits is the digits of its bits
bits_text_is : (w n : ℕ) → bits_text w n ≡ flat_map digit (bits_of w n)
bits_text_is zero n = refl
bits_text_is (suc w) n = ap (λ (t : List ℕ). digit (n / 2 ^ w % 2 == 1) ++ t) (bits_text_is w n)

-- a bit of bytes is that of the byte where it stands
pub bit_is : (bytes : List ℕ) (at : ℕ) → get_or (bits_in bytes) at false ≡ bit_in bytes at
bit_is [] at = refl
bit_is (b ∷ bs) zero = refl
bit_is (b ∷ bs) (suc zero) = refl
bit_is (b ∷ bs) (suc (suc zero)) = refl
bit_is (b ∷ bs) (suc (suc (suc zero))) = refl
bit_is (b ∷ bs) (suc (suc (suc (suc zero)))) = refl
bit_is (b ∷ bs) (suc (suc (suc (suc (suc zero))))) = refl
bit_is (b ∷ bs) (suc (suc (suc (suc (suc (suc zero)))))) = refl
bit_is (b ∷ bs) (suc (suc (suc (suc (suc (suc (suc zero))))))) = refl
bit_is (b ∷ bs) (suc (suc (suc (suc (suc (suc (suc (suc at)))))))) =
    let whole : suc (suc (suc (suc (suc (suc (suc (suc at))))))) / 8 ≡ suc (at / 8) = omega arith in
    let part : suc (suc (suc (suc (suc (suc (suc (suc at))))))) % 8 ≡ at % 8 = omega arith in
    bit_is bs at ∙ sym (rw (whole, part) refl)

-- bits from one on
pub bits_from : (bits : List Bool) (at w : ℕ) → at + suc w ≤ length bits → take (suc w) (drop at bits) ≡ get_or bits at false ∷ take w (drop (at + 1) bits)
bits_from [] at w inside = absurd (omega arith)
bits_from (b ∷ bits) zero w inside = refl
bits_from (b ∷ bits) (suc at) w inside =
    let e : suc at + 1 ≡ suc (at + 1) = omega arith in
    bits_from bits at w (omega arith) ∙ ap (λ (n : ℕ). get_or bits at false ∷ take w (drop n (b ∷ bits))) (sym e)

-- the digits of bytes are those of their bits
digits_are : (bytes : List ℕ) (at w : ℕ) → at + w ≤ length (bits_in bytes) → digits bytes at w ≡ flat_map digit (take w (drop at (bits_in bytes)))
digits_are bytes at zero inside = refl
digits_are bytes at (suc w) inside =
    ap (λ (b : Bool). digit b ++ digits bytes (at + 1) w) (sym (bit_is bytes at))
    ∙ ap (λ (t : List ℕ). digit (get_or (bits_in bytes) at false) ++ t) (digits_are bytes (at + 1) w (omega arith))
    ∙ sym (ap (flat_map digit) (bits_from (bits_in bytes) at w inside))

-- the digits of a field
pub digits_of_field : (bytes : List ℕ) (at width : ℕ) → at + width ≤ 8 * length bytes → digits bytes at width ≡ bits_text width (field at width (bits_in bytes))
digits_of_field bytes at width inside =
    let bits = bits_in bytes in
    let many = length-bytes bytes in
    let left = length-drop at bits in
    let own = take width (drop at bits) in
    digits_are bytes at width (omega arith)
    ∙ ap (flat_map digit) (sym (bits_of-number_of own width (number_of own) (length-take-le width (drop at bits) (omega arith)) refl))
    ∙ sym (bits_text_is width (number_of own))

-- words by their numbers
pub words_by_number : (F : ℕ × ℕ → List ℕ) (f : ℕ → ℕ) (a n : ℕ)
    → flat_map F (enumerate_from a (map f (range_with_len a n))) ≡ flat_map (λ k. F (k, f k)) (range_with_len a n)
words_by_number F f a zero = refl
words_by_number F f a (suc n) = ap (λ (t : List ℕ). F (a, f a) ++ t) (words_by_number F f (a + 1) n)
