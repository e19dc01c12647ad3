-- The words of code to the base 16.
use Rattle.std.proofs.Common.{◌≡◌, ℕ, zero, suc, ◌+◌, ◌-◌, ◌*◌, ◌/◌, ◌%◌, ◌^◌, ◌<◌, ◌≤◌, mul_assoc, Bool, false, List, ◌∷◌, ◌++◌, length, map, take, drop, get_or, replicate, refl, sym, ap, append_assoc, ◌∙◌, arith}
use Rattle.std.specs.List.{flat_map}
use Rattle.std.proofs.Math.Nat.{zero-div, add-mul-div_right, add-mul-mod_self_right}
use Rattle.std.proofs.Math.Seq.{take-add}
use Rattle.std.proofs.lemmas.Grind.{flat_map-append}
use Rattle.std.proofs.lemmas.List.{append-nil, drop-drop, length-drop, length-take-le}
use Rattle.std.proofs.lemmas.List.Folds.{flat_map-map}
use Rattle.std.proofs.lemmas.Nat.{div-mul-add, pow-add, pow_pos}
use Rattle.tta_rtl.specs.Cited.{Machine, Code, numbers, word_width, code_words, bits_in, field, number_of}
use Rattle.tta_image.specs.Sink.{bit_value}
use Rattle.tta_image.proofs.Numbers.{number_of-append, number_of-below}
use Rattle.tta_image.proofs.Unique.{length-bytes}
use Rattle.tta_rtl.specs.CodeFile.{hex_digit, hex_text}
use Rattle.tta_rtl.specs.Memories.{AreCodeBytes, bit_in}
use Rattle.tta_rtl.proofs.Digits.{bit_is, bits_from}

-- ---- numbers of few bits

-- the number of bits from one on: the first of them, and the others
field_more : (bytes : List ℕ) (at w : ℕ) → at + suc w ≤ 8 * length bytes
    → field at (suc w) (bits_in bytes) ≡ bit_value (bit_in bytes at) * 2 ^ w + field (at + 1) w (bits_in bytes)
field_more bytes at w inside =
    let bits = bits_in bytes in
    let many = length-bytes bytes in
    let left = length-drop (at + 1) bits in
    ap number_of (bits_from bits at w (omega (arith, many)))
    ∙ ap (λ (n : ℕ). bit_value (get_or bits at false) * 2 ^ n + field (at + 1) w bits) (length-take-le w (drop (at + 1) bits) (omega (arith, many, left)))
    ∙ ap (λ (b : Bool). bit_value b * 2 ^ w + field (at + 1) w bits) (bit_is bytes at)

pub one_bit : (bytes : List ℕ) (at : ℕ) → at + 1 ≤ 8 * length bytes → field at 1 (bits_in bytes) ≡ bit_value (bit_in bytes at)
one_bit bytes at inside = let more = field_more bytes at 0 inside in omega (arith, more)

pub two_bits : (bytes : List ℕ) (at : ℕ) → at + 2 ≤ 8 * length bytes
    → field at 2 (bits_in bytes) ≡ 2 * bit_value (bit_in bytes at) + bit_value (bit_in bytes (at + 1))
two_bits bytes at inside =
    let more = field_more bytes at 1 inside in
    let rest = one_bit bytes (at + 1) (omega arith) in
    omega (arith, more, rest)

pub three_bits : (bytes : List ℕ) (at : ℕ) → at + 3 ≤ 8 * length bytes
    → field at 3 (bits_in bytes) ≡ 4 * bit_value (bit_in bytes at) + 2 * bit_value (bit_in bytes (at + 1)) + bit_value (bit_in bytes (at + 2))
three_bits bytes at inside =
    let more = field_more bytes at 2 inside in
    let rest = two_bits bytes (at + 1) (omega arith) in
    let last : bit_value (bit_in bytes (at + 1 + 1)) ≡ bit_value (bit_in bytes (at + 2)) = ap (λ (n : ℕ). bit_value (bit_in bytes n)) (omega arith) in
    omega (arith, more, rest, last)

pub four_bits : (bytes : List ℕ) (at : ℕ) → at + 4 ≤ 8 * length bytes
    → field at 4 (bits_in bytes)
    ≡ 8 * bit_value (bit_in bytes at) + 4 * bit_value (bit_in bytes (at + 1)) + 2 * bit_value (bit_in bytes (at + 2)) + bit_value (bit_in bytes (at + 3))
four_bits bytes at inside =
    let more = field_more bytes at 3 inside in
    let rest = three_bits bytes (at + 1) (omega arith) in
    let third : bit_value (bit_in bytes (at + 1 + 1)) ≡ bit_value (bit_in bytes (at + 2)) = ap (λ (n : ℕ). bit_value (bit_in bytes n)) (omega arith) in
    let last : bit_value (bit_in bytes (at + 1 + 2)) ≡ bit_value (bit_in bytes (at + 3)) = ap (λ (n : ℕ). bit_value (bit_in bytes n)) (omega arith) in
    omega (arith, more, rest, third, last)

-- ---- digits

-- four bits a digit
bits_each : (d : ℕ) → 2 ^ (4 * d) ≡ 16 ^ d
bits_each zero = refl
bits_each (suc d) =
    let e : 4 * suc d ≡ 4 + 4 * d = omega arith in
    let p : 16 ^ suc d ≡ 16 * 16 ^ d = omega arith in
    let rest = bits_each d in
    let whole : 2 ^ (4 * suc d) ≡ 16 * 2 ^ (4 * d) = ap (λ (n : ℕ). 2 ^ n) e ∙ pow-add 2 4 (4 * d) in
    omega (arith, p, rest, whole)

-- what stands above so many digits does not change them
hex_low : (d x y : ℕ) → hex_text d (x * 16 ^ d + y) ≡ hex_text d y
hex_low zero x y = refl
hex_low (suc d) x y =
    let p : 16 ^ suc d ≡ 16 * 16 ^ d = omega arith in
    let product : x * 16 ^ suc d ≡ x * 16 * 16 ^ d = ap (λ (n : ℕ). x * n) p ∙ sym (mul_assoc x 16 (16 ^ d)) in
    let up : x * 16 ^ suc d + y ≡ y + x * 16 * 16 ^ d = omega (arith, product) in
    let down : x * 16 ^ suc d + y ≡ x * 16 * 16 ^ d + y = omega (arith, product) in
    let some : 0 < 16 ^ d = rw (sym (bits_each d)) (pow_pos (4 * d)) in
    let first : (x * 16 ^ suc d + y) / 16 ^ d % 16 ≡ y / 16 ^ d % 16 =
    ap (λ (n : ℕ). n / 16 ^ d % 16) up ∙ ap (λ (n : ℕ). n % 16) (add-mul-div_right y (x * 16) some)
    ∙ add-mul-mod_self_right (y / 16 ^ d) x 16 in
    ap (λ (n : ℕ). hex_digit n ∷ hex_text d (x * 16 ^ suc d + y)) first
    ∙ ap (λ (t : List ℕ). hex_digit (y / 16 ^ d % 16) ∷ t) (ap (hex_text d) down ∙ hex_low d (x * 16) y)

-- a digit above so many others
hex_first : (d x y : ℕ) → x < 16 → y < 16 ^ d → hex_text (suc d) (x * 16 ^ d + y) ≡ hex_digit x ∷ hex_text d y
hex_first d x y small below =
    let first : (x * 16 ^ d + y) / 16 ^ d % 16 ≡ x = ap (λ (n : ℕ). n % 16) (div-mul-add x (16 ^ d) y below) ∙ omega arith in
    ap (λ (n : ℕ). hex_digit n ∷ hex_text d (x * 16 ^ d + y)) first ∙ ap (λ (t : List ℕ). hex_digit x ∷ t) (hex_low d x y)

-- a number in two parts
field_split : (bits : List Bool) (at n k : ℕ) → at + (n + k) ≤ length bits → field at (n + k) bits ≡ field at n bits * 2 ^ k + field (at + n) k bits
field_split bits at n k inside =
    let left = length-drop (at + n) bits in
    let apart : take (n + k) (drop at bits) ≡ take n (drop at bits) ++ take k (drop (at + n) bits) =
    take-add n k (drop at bits) ∙ ap (λ (l : List Bool). take n (drop at bits) ++ take k l) (drop-drop n at bits) in
    ap number_of apart ∙ number_of-append (take n (drop at bits)) (take k (drop (at + n) bits))
    ∙ ap (λ (j : ℕ). field at n bits * 2 ^ j + field (at + n) k bits) (length-take-le k (drop (at + n) bits) (omega (arith, left)))

-- a word of some digits: the first of them, of these bits, and the others
pub hex_more : (bytes : List ℕ) (at width top x : ℕ) → 0 < top → top ≤ 4 → top ≤ width → top + 4 * ((width - top) / 4) ≡ width
    → at + width ≤ 8 * length bytes → x < 16 → x ≡ field at top (bits_in bytes)
    → hex_digit x ∷ hex_text ((width - top + 3) / 4) (field (at + top) (width - top) (bits_in bytes))
    ≡ hex_text ((width + 3) / 4) (field at width (bits_in bytes))
hex_more bytes at width top x some few within whole inside small is =
    let bits = bits_in bytes in
    let many = length-bytes bytes in
    let d : ℕ = (width - top) / 4 in
    let rest : width - top ≡ 4 * d = omega arith in
    let fewer : (width - top + 3) / 4 ≡ d = omega arith in
    let digits : (width + 3) / 4 ≡ suc d = omega arith in
    let left = length-drop (at + top) bits in
    let y : ℕ = field (at + top) (4 * d) bits in
    let own = take (4 * d) (drop (at + top) bits) in
    let long : length own ≡ 4 * d = length-take-le (4 * d) (drop (at + top) bits) (omega (arith, many, left)) in
    let room : y < 2 ^ length own = number_of-below own in
    let power : 2 ^ length own ≡ 16 ^ d = ap (λ (n : ℕ). 2 ^ n) long ∙ bits_each d in
    let below : y < 16 ^ d = omega (arith, room, power) in
    let split : field at width bits ≡ x * 16 ^ d + y =
    ap (λ (n : ℕ). field at n bits) (sym whole) ∙ field_split bits at top (4 * d) (omega (arith, many))
    ∙ ap (λ (p : ℕ). field at top bits * p + y) (bits_each d) ∙ ap (λ (n : ℕ). n * 16 ^ d + y) (sym is) in
    ap (λ (n : ℕ). hex_digit x ∷ hex_text n (field (at + top) (width - top) bits)) fewer
    ∙ ap (λ (n : ℕ). hex_digit x ∷ hex_text d (field (at + top) n bits)) rest
    ∙ sym (hex_first d x y small below)
    ∙ ap (hex_text (suc d)) (sym split) ∙ ap (λ (n : ℕ). hex_text n (field at width bits)) (sym digits)

-- ---- words that are 0

pub zero_more : (d : ℕ) → 0 < d → hex_text d 0 ≡ 48 ∷ hex_text (d - 1) 0
zero_more zero some = absurd (omega arith)
zero_more (suc d) some =
    let e : suc d - 1 ≡ d = omega arith in
    ap (λ (n : ℕ). hex_digit (n % 16) ∷ hex_text d 0) (zero-div (16 ^ d)) ∙ ap (λ (n : ℕ). 48 ∷ hex_text n 0) (sym e)

-- a line more
one_more : (line : ℕ → List ℕ) (n : ℕ) → flat_map line (replicate n 0) ++ line 0 ≡ flat_map line (replicate (suc n) 0)
one_more line zero = sym (append-nil (line 0))
one_more line (suc n) = append_assoc (line 0) (flat_map line (replicate n 0)) (line 0) ∙ ap (λ (t : List ℕ). line 0 ++ t) (one_more line n)

pub zeros_more : (line : ℕ → List ℕ) (old mid new : List ℕ) (k : ℕ) → mid ≡ old ++ flat_map line (replicate k 0) → new ≡ mid ++ line 0
    → new ≡ old ++ flat_map line (replicate (k + 1) 0)
zeros_more line old mid new k before put =
    let e : suc k ≡ k + 1 = omega arith in
    put ∙ ap (λ (t : List ℕ). t ++ line 0) before ∙ append_assoc old (flat_map line (replicate k 0)) (line 0)
    ∙ ap (λ (t : List ℕ). old ++ t) (one_more line k ∙ ap (λ (n : ℕ). flat_map line (replicate n 0)) e)

-- ---- the file

-- the lines of the words of code
pub code_lines : (m : Machine) (code : Code) (bytes : List ℕ) → AreCodeBytes m code bytes → (line : ℕ → List ℕ)
    → flat_map (λ k. line (field (k * word_width m) (word_width m) (bits_in bytes))) (numbers (length code.words)) ≡ flat_map line (code_words m code)
code_lines m code bytes b line =
    sym (flat_map-map line (λ k. field (k * word_width m) (word_width m) (bits_in bytes)) (numbers (length code.words)))
    ∙ ap (flat_map line) b.words

-- the lines of all addresses
pub all_lines : (m : Machine) (code : Code) (line : ℕ → List ℕ) (n : ℕ)
    → flat_map line (code_words m code ++ replicate n 0) ≡ flat_map line (code_words m code) ++ flat_map line (replicate n 0)
all_lines m code line n = flat_map-append line (code_words m code) (replicate n 0)
