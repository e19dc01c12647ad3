-- How the first line of some bytes is cut off.
use Rattle.std.proofs.Common.{◌≡◌, ℕ, zero, suc, ◌+◌, ◌-◌, ◌≤◌, ◌<◌, Bool, true, false, ◌&&◌, not, if◌then◌else◌, List, [], ◌∷◌, length, take, drop, refl, sym, ap, ◌∙◌, arith, Option, None, Some, unwrap_or, Bor}
use Rattle.std.specs.List.{prefix_len}
use Rattle.std.specs.Cmp.Lexicographic.{pointwise}
use Rattle.std.specs.Prelude.{nat_eq, MatchOption}
use Rattle.tta_input.specs.Lines.{is_newline, is_return, begins_with_newline, onto_first, lines_of, without_return}

-- how many bytes stand before the first newline
abbrev pub line_len : List ℕ → ℕ
line_len bytes = prefix_len (λ byte. not (is_newline byte)) bytes

length-onto_first : (byte : ℕ) (lines : List (List ℕ)) → length (onto_first byte lines) ≤ suc (length lines)
length-onto_first byte [] = omega arith
length-onto_first byte (line ∷ lines) = omega arith

module _ (byte : ℕ) (bytes : List ℕ) (lines : List (List ℕ)) (fewer : length lines ≤ length bytes) where
  length-turn : (ends skips : Bool)
      → length (if ends then [] ∷ lines else if skips then lines else onto_first byte lines) ≤ suc (length bytes)
  length-turn true skips = omega (arith, fewer)
  length-turn false true = omega (arith, fewer)
  length-turn false false = omega (arith, fewer, length-onto_first byte lines)

-- each line has a byte of its own
pub length-lines_of : (bytes : List ℕ) → length (lines_of bytes) ≤ length bytes
unfolding lines_of
length-lines_of [] = omega arith
length-lines_of (byte ∷ bytes) =
    length-turn byte bytes (lines_of bytes) (length-lines_of bytes) (is_newline byte) (is_return byte && begins_with_newline bytes)

pub lines_of-none : (bytes : List ℕ) → length bytes ≡ 0 → lines_of bytes ≡ []
unfolding lines_of
lines_of-none [] none = refl
lines_of-none (byte ∷ bytes) none = absurd (omega arith)

-- bytes without newline are one line
pub lines_of-last : (bytes : List ℕ) → 0 < length bytes → line_len bytes ≡ length bytes → lines_of bytes ≡ bytes ∷ []
unfolding lines_of
lines_of-last [] some none = absurd (omega arith)
lines_of-last (byte ∷ []) some none = grind (arith)
lines_of-last (byte ∷ next ∷ bytes) some none =
    let rest = lines_of-last (next ∷ bytes) in
    grind (arith, rest)

-- one byte before a newline
one_byte : (is : Bool) (byte : ℕ) (bytes : List ℕ)
    → (if is && true then [] ∷ lines_of bytes else (byte ∷ []) ∷ lines_of bytes) ≡ (if is then [] else byte ∷ []) ∷ lines_of bytes
one_byte true byte bytes = refl
one_byte false byte bytes = refl

no_return : (is : Bool) (lines others : List (List ℕ)) → (if is && false then lines else others) ≡ others
no_return true lines others = refl
no_return false lines others = refl

pub lines_of-newline : (byte : ℕ) (bytes : List ℕ) → byte ≡ 10 → lines_of (byte ∷ bytes) ≡ [] ∷ lines_of bytes
unfolding lines_of
lines_of-newline byte bytes newline = rw newline refl

lines_of-short : (byte next : ℕ) (bytes : List ℕ) → is_newline byte ≡ false → next ≡ 10
    → lines_of (byte ∷ next ∷ bytes) ≡ without_return (byte ∷ []) ∷ lines_of bytes
unfolding lines_of
lines_of-short byte next bytes other newline = rw newline (rw other (one_byte (is_return byte) byte bytes))

pub lines_of-byte : (byte : ℕ) (bytes : List ℕ) → is_newline byte ≡ false → begins_with_newline bytes ≡ false
    → lines_of (byte ∷ bytes) ≡ onto_first byte (lines_of bytes)
unfolding lines_of
lines_of-byte byte bytes other more =
    rw (other, more) (no_return (is_return byte) (lines_of bytes) (onto_first byte (lines_of bytes)))

-- a line that a newline ends, and the lines after it
pub lines_of-ended : (bytes : List ℕ) (len : ℕ) → line_len bytes ≡ len → len < length bytes
    → lines_of bytes ≡ without_return (take len bytes) ∷ lines_of (drop (suc len) bytes)
lines_of-ended [] len is some = absurd (omega arith)
lines_of-ended (byte ∷ []) zero is some = lines_of-newline byte [] (grind (arith))
lines_of-ended (byte ∷ []) (suc len) is some = absurd (omega arith)
lines_of-ended (byte ∷ next ∷ bytes) zero is some = lines_of-newline byte (next ∷ bytes) (grind (arith))
lines_of-ended (byte ∷ next ∷ bytes) (suc zero) is some = lines_of-short byte next bytes (grind (arith)) (grind (arith))
lines_of-ended (byte ∷ next ∷ bytes) (suc (suc len)) is some =
    lines_of-byte byte (next ∷ bytes) (grind (arith)) (grind (arith))
    ∙ ap (onto_first byte) (lines_of-ended (next ∷ bytes) (suc len) (grind (arith)) (omega arith))

-- a line that ends with a carriage return
last_is : (byte : ℕ) (line : List ℕ) → pointwise nat_eq (drop (length line) (byte ∷ line)) (13 ∷ []) ≡ true
    → without_return (byte ∷ line) ≡ take (length line) (byte ∷ line)
last_is byte [] ends = grind (arith)
last_is byte (next ∷ line) ends = ap (λ l. byte ∷ l) (last_is next line ends)

-- a line that does not
last_is_not : (byte : ℕ) (line : List ℕ) → pointwise nat_eq (drop (length line) (byte ∷ line)) (13 ∷ []) ≡ false
    → without_return (byte ∷ line) ≡ byte ∷ line
last_is_not byte [] other = grind (arith)
last_is_not byte (next ∷ line) other = ap (λ l. byte ∷ l) (last_is_not next line other)

pub without_return-ends : (line : List ℕ) → pointwise nat_eq (drop (length line - 1) line) (13 ∷ []) ≡ true
    → without_return line ≡ take (length line - 1) line
without_return-ends [] ends = refl
without_return-ends (byte ∷ line) ends =
    let n : suc (length line) - 1 ≡ length line = omega arith in
    rw n (last_is byte line (rw n at ends))

pub without_return-other : (line : List ℕ) → pointwise nat_eq (drop (length line - 1) line) (13 ∷ []) ≡ false
    → without_return line ≡ line
without_return-other [] other = refl
without_return-other (byte ∷ line) other =
    let n : suc (length line) - 1 ≡ length line = omega arith in
    last_is_not byte line (rw n at other)

-- what `strip_suffix` leaves of a line
pub stripped : (line : List ℕ) (left : Option (Bor (List ℕ)))
    → MatchOption left (pointwise nat_eq (drop (length line - 1) line) (13 ∷ []) ≡ false)
    (λ front. (pointwise nat_eq (drop (length line - 1) line) (13 ∷ []) ≡ true) × (front.now ≡ take (length line - 1) line) × (length front.now + 1 ≡ length line))
    → (whole : Bor (List ℕ)) → whole.now ≡ line → (unwrap_or left whole).now ≡ without_return line
stripped line None m whole is = is ∙ sym (without_return-other line m)
stripped line (Some front) m whole is = m.1 ∙ sym (without_return-ends line m.0)
