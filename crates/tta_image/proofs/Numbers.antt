-- Bits as a number, and back.
use Rattle.std.proofs.Common.{◌≡◌, ℕ, zero, suc, ◌+◌, ◌*◌, ◌/◌, ◌%◌, ◌^◌, ◌<◌, ◌==◌, Bool, true, false, List, [], ◌∷◌, ◌++◌, length, replicate, refl, sym, ap, ◌∙◌, lit<, inl, inr, arith}
use Rattle.std.specs.List.{list_any}
use Rattle.std.proofs.lemmas.Bool.{true≢false, cases_eq, eq-eqb, ne_eqb}
use Rattle.std.proofs.lemmas.List.{length-append}
use Rattle.std.proofs.lemmas.Nat.{pow-add, pow_pos, mod-pow-add}
use Rattle.tta_image.specs.Bits.{bits_of}
use Rattle.tta_image.specs.Sink.{bit_value}
use Rattle.tta_image.specs.Decoding.{number_of}
use Rattle.tta_image.proofs.Unique.{length-bits_of}
use Rattle.tta_image.proofs.BitLemmas.{low_whole}

-- so many bits make a number below so much
pub number_of-below : (bits : List Bool) → number_of bits < 2 ^ length bits
number_of-below [] = lit< tt
number_of-below (true ∷ bits) = let h = number_of-below bits in let p : 2 ^ suc (length bits) ≡ 2 * 2 ^ length bits = omega arith in omega arith
number_of-below (false ∷ bits) = let h = number_of-below bits in let p : 2 ^ suc (length bits) ≡ 2 * 2 ^ length bits = omega arith in omega arith

-- bits and more bits after them
pub number_of-append : (xs ys : List Bool) → number_of (xs ++ ys) ≡ number_of xs * 2 ^ length ys + number_of ys
number_of-append [] ys = omega arith
number_of-append (true ∷ xs) ys =
    let more = number_of-append xs ys in
    let p : 2 ^ length (xs ++ ys) ≡ 2 ^ length xs * 2 ^ length ys = ap (λ (n : ℕ). 2 ^ n) (length-append xs ys) ∙ pow-add 2 (length xs) (length ys) in
    grind arith
number_of-append (false ∷ xs) ys = let more = number_of-append xs ys in omega arith

bit_value-odd : (n : ℕ) → bit_value (n % 2 == 1) ≡ n % 2
bit_value-odd n = elim (cases_eq (n % 2) 1) [
  | inl odd ↦ ap bit_value (eq-eqb (n % 2) 1 odd) ∙ sym odd
  | inr even ↦ let v : bit_value (n % 2 == 1) ≡ 0 = ap bit_value (ne_eqb (n % 2) 1 even) in omega arith
]

-- the number of a number's bits
pub number_of-bits_of : (w n : ℕ) → number_of (bits_of w n) ≡ n % 2 ^ w
number_of-bits_of zero n = omega arith
number_of-bits_of (suc w) n =
    let rest = number_of-bits_of w n in
    let bit = bit_value-odd (n / 2 ^ w) in
    let many : 2 ^ length (bits_of w n) ≡ 2 ^ w = ap (λ (k : ℕ). 2 ^ k) (length-bits_of w n) in
    let e : 1 + w ≡ suc w = omega arith in
    let split : n % 2 ^ suc w ≡ n / 2 ^ w % 2 ^ 1 * 2 ^ w + n % 2 ^ w = ap (λ (k : ℕ). n % 2 ^ k) (sym e) ∙ mod-pow-add n 1 w in
    let first : bit_value (n / 2 ^ w % 2 == 1) * 2 ^ length (bits_of w n) ≡ n / 2 ^ w % 2 ^ 1 * 2 ^ w =
    ap (λ (k : ℕ). bit_value (n / 2 ^ w % 2 == 1) * k) many ∙ ap (λ (k : ℕ). k * 2 ^ w) bit in
    omega arith

pub number_of-bits_of_small : (w n : ℕ) → n < 2 ^ w → number_of (bits_of w n) ≡ n
number_of-bits_of_small w n small = number_of-bits_of w n ∙ low_whole n w w small (omega arith)

-- as many bits with the same number are the same
pub same_bits : (xs ys : List Bool) → length xs ≡ length ys → number_of xs ≡ number_of ys → xs ≡ ys
same_bits [] [] many same = refl
same_bits [] (y ∷ ys) many same = absurd (omega arith)
same_bits (x ∷ xs) [] many same = absurd (omega arith)
same_bits (true ∷ xs) (true ∷ ys) many same =
    let rest : length xs ≡ length ys = omega arith in let p : 2 ^ length xs ≡ 2 ^ length ys = ap (λ (n : ℕ). 2 ^ n) rest in
    ap (λ (l : List Bool). true ∷ l) (same_bits xs ys rest (omega arith))
same_bits (false ∷ xs) (false ∷ ys) many same = ap (λ (l : List Bool). false ∷ l) (same_bits xs ys (omega arith) (omega arith))
same_bits (true ∷ xs) (false ∷ ys) many same =
    let rest : length xs ≡ length ys = omega arith in let p : 2 ^ length xs ≡ 2 ^ length ys = ap (λ (n : ℕ). 2 ^ n) rest in
    let small = number_of-below ys in absurd (omega arith)
same_bits (false ∷ xs) (true ∷ ys) many same =
    let rest : length xs ≡ length ys = omega arith in let p : 2 ^ length xs ≡ 2 ^ length ys = ap (λ (n : ℕ). 2 ^ n) rest in
    let small = number_of-below xs in absurd (omega arith)

-- bits are those of their number
pub bits_of-number_of : (bits : List Bool) (w n : ℕ) → length bits ≡ w → number_of bits ≡ n → bits_of w n ≡ bits
bits_of-number_of bits w n many is =
    let p : 2 ^ length bits ≡ 2 ^ w = ap (λ (k : ℕ). 2 ^ k) many in
    let small = number_of-below bits in
    same_bits (bits_of w n) bits (length-bits_of w n ∙ sym many) (number_of-bits_of_small w n (omega arith) ∙ sym is)

-- bits that are all zero
pub number_of-zeros : (k : ℕ) → number_of (replicate k false) ≡ 0
number_of-zeros zero = refl
number_of-zeros (suc k) = let rest = number_of-zeros k in omega arith

pub list_any-zeros : (k : ℕ) → list_any (λ b. b) (replicate k false) ≡ false
list_any-zeros zero = refl
list_any-zeros (suc k) = list_any-zeros k

pub zeros_from : (bits : List Bool) (k : ℕ) → length bits ≡ k → list_any (λ b. b) bits ≡ false → bits ≡ replicate k false
zeros_from [] zero many none = refl
zeros_from [] (suc k) many none = absurd (omega arith)
zeros_from (b ∷ bits) zero many none = absurd (omega arith)
zeros_from (true ∷ bits) (suc k) many none = absurd (true≢false none)
zeros_from (false ∷ bits) (suc k) many none = ap (λ (l : List Bool). false ∷ l) (zeros_from bits k (omega arith) none)

-- some bit is set just where the number is not 0
pub some_from_number : (bits : List Bool) → (number_of bits == 0) ≡ false → list_any (λ b. b) bits ≡ true
some_from_number [] h = absurd (true≢false h)
some_from_number (true ∷ bits) h = refl
some_from_number (false ∷ bits) h = let e : 0 * 2 ^ length bits + number_of bits ≡ number_of bits = omega arith in some_from_number bits (rw e at h)

pub none_from_number : (bits : List Bool) → number_of bits ≡ 0 → list_any (λ b. b) bits ≡ false
none_from_number [] h = refl
none_from_number (true ∷ bits) h = let p = pow_pos (length bits) in absurd (omega arith)
none_from_number (false ∷ bits) h = none_from_number bits (omega arith)
