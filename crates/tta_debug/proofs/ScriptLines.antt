-- How the first line of a script is cut off.
use Rattle.std.proofs.Common.{◌≡◌, ℕ, zero, suc, ◌<◌, ◌==◌, true, false, if◌then◌else◌, List, [], ◌∷◌, length, take, drop, ap, ◌∙◌, arith}
use Rattle.tta_debug.specs.Scripts.{line_len, onto_first, lines_of}

-- bytes without newline are one line
pub lines_of-last : (bytes : List ℕ) → 0 < length bytes → line_len bytes ≡ length bytes → lines_of bytes ≡ bytes ∷ []
unfolding lines_of
lines_of-last [] some none = absurd (omega arith)
lines_of-last (byte ∷ []) some none = grind (arith)
lines_of-last (byte ∷ next ∷ bytes) some none =
    let rest = lines_of-last (next ∷ bytes) in
    grind (arith, rest)

-- a newline first
lines_of-newline : (byte : ℕ) (bytes : List ℕ) → (byte == 10) ≡ true → lines_of (byte ∷ bytes) ≡ [] ∷ lines_of bytes
unfolding lines_of
lines_of-newline byte bytes newline = ap (λ b. if b then [] ∷ lines_of bytes else onto_first byte (lines_of bytes)) newline

-- another byte first
lines_of-byte : (byte : ℕ) (bytes : List ℕ) → (byte == 10) ≡ false → lines_of (byte ∷ bytes) ≡ onto_first byte (lines_of bytes)
unfolding lines_of
lines_of-byte byte bytes other = ap (λ b. if b then [] ∷ lines_of bytes else onto_first byte (lines_of bytes)) other

-- a line that a newline ends, and the lines after it
pub lines_of-ended : (bytes : List ℕ) (len : ℕ) → line_len bytes ≡ len → len < length bytes
    → lines_of bytes ≡ take len bytes ∷ lines_of (drop (suc len) bytes)
lines_of-ended [] len is some = absurd (omega arith)
lines_of-ended (byte ∷ bytes) zero is some = lines_of-newline byte bytes (grind (arith))
lines_of-ended (byte ∷ bytes) (suc len) is some =
    lines_of-byte byte bytes (grind (arith)) ∙ ap (onto_first byte) (lines_of-ended bytes len (grind (arith)) (omega arith))
