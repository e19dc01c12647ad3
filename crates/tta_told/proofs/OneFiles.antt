-- Words to the base 16 are told apart by their digits.
use Rattle.std.proofs.Common.{◌≡◌, ℕ, zero, suc, ◌+◌, ◌-◌, ◌*◌, ◌/◌, ◌%◌, ◌^◌, ◌<◌, ◌≤◌, true, false, if◌then◌else◌, nat_lt, get_or, drop, List, [], ◌∷◌, ◌++◌, length, replicate, refl, sym, ap, ◌∙◌, subst, append_assoc, mul_assoc, add-mul, div-add-mod', mod-eq_of_lt, arith}
use Rattle.std.specs.Prelude.{codes}
use Rattle.std.specs.List.{flat_map, AllByRecursion}
use Rattle.std.proofs.lemmas.Nat.{mod-mul-add, mod_below, mul-add-lt, mul-le, pow_pos, pow-add}
use Rattle.tta_code.specs.Legal.{IsLegalCode}
use Rattle.tta_rtl.specs.Cited.{word_width}
use Rattle.tta_hardware.proofs.Kept.{narrow_words}
use Rattle.tta_rtl.specs.CodeFile.{hex_digit, hex_text, hex_line, memory_words, code_file}
use Rattle.tta_told.specs.Files.{OneFile}

-- ---- digits

-- a digit to the base 16, by its number
abbrev of_digit : ℕ → ℕ
of_digit c = if nat_lt c 58 then c - 48 else c - 87

digit_read : (n : ℕ) → n < 16 → of_digit (hex_digit n) ≡ n
digit_read n few = grind arith

digits_apart : (a b : ℕ) → a < 16 → b < 16 → hex_digit a ≡ hex_digit b → a ≡ b
digits_apart a b few many same = sym (digit_read a few) ∙ ap of_digit same ∙ digit_read b many

-- one digit more tells a word up to 16 times as many
mod_more : (w p : ℕ) → 0 < p → w / p % 16 * p + w % p ≡ w % (16 * p)
mod_more w p some =
    let q = w / p in
    let low = q % 16 * p + w % p in
    let small : low < 16 * p = omega (arith, mul-add-lt (q % 16) p (w % p) 16 (mod_below q 16 (omega arith)) (mod_below w p some)) in
    let digits : (q / 16 * 16 + q % 16) * p ≡ q * p = ap (λ n. n * p) (div-add-mod' q 16) in
    let apart : (q / 16 * 16 + q % 16) * p ≡ q / 16 * 16 * p + q % 16 * p = add-mul (q / 16 * 16) (q % 16) p in
    let moved : q / 16 * 16 * p ≡ q / 16 * (16 * p) = mul_assoc (q / 16) 16 p in
    let total : q / 16 * (16 * p) + low ≡ w = omega (arith, digits, apart, moved, div-add-mod' w p) in
    sym (mod-mul-add (q / 16) (16 * p) low small) ∙ ap (λ n. n % (16 * p)) total

more_digits : (d : ℕ) → 16 ^ suc d ≡ 16 * 16 ^ d
more_digits d = let is : suc d ≡ 1 + d = omega arith in ap (λ n. 16 ^ n) is ∙ pow-add 16 1 d

positive : (d : ℕ) → 0 < 16 ^ d
positive zero = omega arith
positive (suc d) =
    let more = more_digits d in
    let some = positive d in
    omega arith

-- digits tell what is left of a word by so many of them, and what stands after them
same_digits : (d x y : ℕ) (r s : List ℕ) → hex_text d x ++ r ≡ hex_text d y ++ s → (x % 16 ^ d ≡ y % 16 ^ d) × (r ≡ s)
same_digits zero x y r s same =
    let a = mod_below x 1 (omega arith) in
    let b = mod_below y 1 (omega arith) in
    (omega arith, same)
same_digits (suc d) x y r s same =
    let p = 16 ^ d in
    let first = digits_apart (x / p % 16) (y / p % 16) (mod_below (x / p) 16 (omega arith)) (mod_below (y / p) 16 (omega arith)) (ap (λ l. get_or l 0 0) same) in
    let others = same_digits d x y r s (ap (drop 1) same) in
    let more = more_digits d in
    let some : 0 < p = positive d in
    (ap (λ n. x % n) more ∙ sym (mod_more x p some) ∙ ap (λ n. n * p + x % p) first ∙ ap (λ n. y / p % 16 * p + n) others.0 ∙ mod_more y p some ∙ ap (λ n. y % n) (sym more), others.1)

-- ---- lines

-- the power of 16 of so many digits has room for the bits
room_of : (d : ℕ) → 16 ^ d ≡ 2 ^ (4 * d)
room_of zero = refl
room_of (suc d) =
    let bits : 2 ^ (4 * suc d) ≡ 2 ^ (4 + 4 * d) = ap (λ n. 2 ^ n) (omega arith) in
    more_digits d ∙ ap (λ n. 16 * n) (room_of d) ∙ sym (bits ∙ pow-add 2 4 (4 * d))

within_digits : (width w : ℕ) → w < 2 ^ width → w % 16 ^ ((width + 3) / 4) ≡ w
within_digits width w few =
    let d = (width + 3) / 4 in
    let more : 2 ^ (4 * d) ≡ 2 ^ width * 2 ^ (4 * d - width) =
    let is : 4 * d ≡ width + (4 * d - width) = omega arith in
    ap (λ n. 2 ^ n) is ∙ pow-add 2 width (4 * d - width) in
    let some = pow_pos (4 * d - width) in
    let least : 2 ^ width * 1 ≤ 2 ^ width * 2 ^ (4 * d - width) = mul-le (2 ^ width) 1 (2 ^ width) (2 ^ (4 * d - width)) (omega arith) (omega (arith, some)) in
    mod-eq_of_lt (omega (arith, few, more, least, room_of d))

-- a line, and what stands after it
line_is : (width w : ℕ) (rest : List ℕ) → hex_line width w ++ rest ≡ hex_text ((width + 3) / 4) w ++ (10 ∷ rest)
unfolding hex_line
line_is width w rest = append_assoc (hex_text ((width + 3) / 4) w) (codes "\n") rest

some_text : (t r : List ℕ) → 0 < length (t ++ (10 ∷ r))
some_text [] r = omega arith
some_text (c ∷ t) r = omega arith

-- words of fewer bits than the digits have are told by their lines
same_lines : (width : ℕ) (xs ys : List ℕ) → AllByRecursion (λ w. w < 2 ^ width) xs → AllByRecursion (λ w. w < 2 ^ width) ys
    → flat_map (hex_line width) xs ≡ flat_map (hex_line width) ys → xs ≡ ys
same_lines width [] [] few many same = refl
same_lines width [] (y ∷ ys) few many same =
    let rest = flat_map (hex_line width) ys in
    let some = some_text (hex_text ((width + 3) / 4) y) rest in
    absurd (omega (arith, some, ap length (same ∙ line_is width y rest)))
same_lines width (x ∷ xs) [] few many same =
    let rest = flat_map (hex_line width) xs in
    let some = some_text (hex_text ((width + 3) / 4) x) rest in
    absurd (omega (arith, some, ap length (sym same ∙ line_is width x rest)))
same_lines width (x ∷ xs) (y ∷ ys) few many same =
    let d = (width + 3) / 4 in
    let both = same_digits d x y (10 ∷ flat_map (hex_line width) xs) (10 ∷ flat_map (hex_line width) ys)
    (sym (line_is width x (flat_map (hex_line width) xs)) ∙ same ∙ line_is width y (flat_map (hex_line width) ys)) in
    let first : x ≡ y = sym (within_digits width x few.0) ∙ both.0 ∙ within_digits width y many.0 in
    let others = same_lines width xs ys few.1 many.1 (ap (drop 1) both.1) in
    ap (λ w. w ∷ xs) first ∙ ap (λ l. y ∷ l) others

pub one_file : OneFile
one_file m whole other legal others same =
    same_lines (word_width m) (memory_words m whole.code) (memory_words m other.code)
    (narrow_words m whole.code.words _ legal.words) (narrow_words m other.code.words _ others.words) same
