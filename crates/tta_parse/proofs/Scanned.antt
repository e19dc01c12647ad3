-- Names, numbers and marks are scanned as they were printed.
use Rattle.std.proofs.Common.{◌≡◌, ℕ, ◌<◌, ◌^◌, true, false, List, [], ◌∷◌, ◌++◌, length, refl, arith}
use Rattle.std.specs.Prelude.{Some, codes, decimal}
use Rattle.std.specs.List.{list_all}
use Rattle.std.specs.Char.{is_ascii_digit}
use Rattle.std.proofs.lemmas.Fmt.{decimal_is_IsNumeral}
use Rattle.std.proofs.lemmas.Bool.{and_parts, false≢true}
use Rattle.tta_parse.specs.Cited.{Kind, Name, Number, Mark, is_newline, is_word_byte, token, piece_at, mark_piece, number_of, first_is, is_letter, is_run, is_name}
use Rattle.tta_parse.specs.Lines.{is_line_end}
use Rattle.tta_text.proofs.ShownWords.{letter-line, name_piece, digits_of_values, number_of-decimal, digit-line, digits_piece}

-- a word that is scanned as a token of its kind before these bytes
pub record IsScanned (kind : Kind) (text after : List ℕ) : Type 0 where
  pub byte : ℕ
  pub others : List ℕ
  pub whole : text ≡ byte ∷ others
  pub line : is_newline byte ≡ false
  pub piece : piece_at byte (others ++ after) ≡ token kind (length (byte ∷ others))
  pub inside : is_line_end kind ≡ false

-- a name is scanned as one
pub name_scanned : (text after : List ℕ) → is_name text ≡ true → first_is is_word_byte after ≡ false
    → IsScanned Name text after
name_scanned [] after h stop = absurd (false≢true h)
name_scanned (byte ∷ others) after h stop = record {
  byte = byte;
  others = others;
  whole = refl;
  line = letter-line byte (and_parts (is_letter byte) (is_run (byte ∷ others)) h).0;
  piece = name_piece byte others after h stop;
  inside = refl;
}

-- ---- numbers

-- digits with a value are scanned as a number
digits_scanned : (text after : List ℕ) (n : ℕ) → 0 < length text → list_all is_ascii_digit text ≡ true
    → number_of text ≡ Some n → first_is is_word_byte after ≡ false → IsScanned Number text after
digits_scanned [] after n some h value stop = absurd (omega arith)
digits_scanned (byte ∷ others) after n some h value stop = record {
  byte = byte;
  others = others;
  whole = refl;
  line = digit-line byte (and_parts (is_ascii_digit byte) (list_all is_ascii_digit others) h).0;
  piece = digits_piece byte others after n h value stop;
  inside = refl;
}

-- a number is scanned as one
pub number_scanned : (n : ℕ) (after : List ℕ) → n < 2 ^ 32 → first_is is_word_byte after ≡ false
    → IsScanned Number (decimal n) after
number_scanned n after h stop =
    let numeral = decimal_is_IsNumeral n (omega arith) in
    digits_scanned (decimal n) after n numeral.0.0 (digits_of_values (decimal n) numeral.0.1) (number_of-decimal n h) stop

-- ---- marks

-- the mark of an assignment
pub equals_scanned : (after : List ℕ) → IsScanned Mark (codes "=") after
unfolding piece_at mark_piece
equals_scanned after = record { byte = 61; others = []; whole = refl; line = refl; piece = refl; inside = refl }

-- the mark after a label
pub colon_scanned : (after : List ℕ) → IsScanned Mark (codes ":") after
unfolding piece_at mark_piece
colon_scanned after = record { byte = 58; others = []; whole = refl; line = refl; piece = refl; inside = refl }
