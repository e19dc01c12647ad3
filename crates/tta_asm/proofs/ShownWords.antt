-- Names, numbers and marks are scanned as they were printed, and close no piece.
use Rattle.std.proofs.Common.{◌≡◌, ℕ, ◌<◌, ◌^◌, true, false, List, [], ◌∷◌, ◌++◌, length, refl, arith}
use Rattle.std.specs.Prelude.{nat_eq, codes, decimal}
use Rattle.std.specs.List.{list_all}
use Rattle.std.specs.Char.{is_ascii_digit}
use Rattle.std.proofs.lemmas.Fmt.{decimal_is_IsNumeral}
use Rattle.std.proofs.lemmas.Bool.{and_parts, false≢true}
use Rattle.std.proofs.lemmas.Bool.Decides.{nat_tests}
use Rattle.tta_asm.specs.Cited.{Name, Number, Mark, is_word_byte, piece_at, mark_piece, first_is, is_letter, is_run, is_name}
use Rattle.tta_text.specs.Tokens.{token}
use Rattle.tta_text.proofs.Shapes.{digit_is_run_byte}
use Rattle.tta_text.proofs.ShownWords.{digits_of_values}
use Rattle.tta_asm.proofs.ShownScan.{Stays}
use Rattle.tta_parse.proofs.Scanned.{name_scanned, number_scanned, equals_scanned}

-- a name closes no piece
pub name_stays : (text after : List ℕ) → is_name text ≡ true → first_is is_word_byte after ≡ false → Stays Name text after
name_stays text after h stop = record { scanned = name_scanned text after h stop; stays = refl }

-- nor does a number
pub number_stays : (n : ℕ) (after : List ℕ) → n < 2 ^ 32 → first_is is_word_byte after ≡ false → Stays Number (decimal n) after
number_stays n after h stop = record { scanned = number_scanned n after h stop; stays = refl }

-- ---- marks

-- the mark of a guard
pub query_stays : (after : List ℕ) → Stays Mark (codes "?") after
unfolding piece_at mark_piece
query_stays after = record { scanned = record { byte = 63; others = []; whole = refl; line = refl; piece = refl; inside = refl }; stays = refl }

-- the mark of an inverted guard
pub bang_stays : (after : List ℕ) → Stays Mark (codes "!") after
unfolding piece_at mark_piece
bang_stays after = record { scanned = record { byte = 33; others = []; whole = refl; line = refl; piece = refl; inside = refl }; stays = refl }

-- the mark before a long immediate's word
pub equals_stays : (after : List ℕ) → Stays Mark (codes "=") after
equals_stays after = record { scanned = equals_scanned after; stays = refl }

-- the mark that begins a long immediate
pub open_stays : (after : List ℕ) → Stays Mark (codes "[") after
unfolding piece_at mark_piece
open_stays after = record { scanned = record { byte = 91; others = []; whole = refl; line = refl; piece = refl; inside = refl }; stays = refl }

-- the mark that ends one
pub shut_stays : (after : List ℕ) → Stays Mark (codes "]") after
unfolding piece_at mark_piece
shut_stays after = record { scanned = record { byte = 93; others = []; whole = refl; line = refl; piece = refl; inside = refl }; stays = refl }

-- the marks of more than one byte
pub dots_stays : (after : List ℕ) → Stays Mark (codes "...") after
unfolding piece_at mark_piece
dots_stays after = record { scanned = record { byte = 46; others = 46 ∷ 46 ∷ []; whole = refl; line = refl; piece = refl; inside = refl }; stays = refl }

-- an arrow with a blank after it
pub arrow_stays : (after : List ℕ) → Stays Mark (codes "->") after
unfolding piece_at mark_piece
arrow_stays after = record { scanned = record { byte = 45; others = 62 ∷ []; whole = refl; line = refl; piece = refl; inside = refl }; stays = refl }

-- a dot with a letter or a digit after it
dot_piece : (byte : ℕ) (after : List ℕ) → is_word_byte byte ≡ true → piece_at 46 (byte ∷ after) ≡ token Mark 1
unfolding piece_at mark_piece
dot_piece byte after h =
    let other : nat_eq 46 byte ≡ false = grind (arith, nat_tests) in rw other refl

-- a dot is scanned as a mark, where a letter or a digit follows it
pub dot_stays : (after : List ℕ) → first_is is_word_byte after ≡ true → Stays Mark (codes ".") after
dot_stays [] h = absurd (false≢true h)
dot_stays (byte ∷ after) h = record {
  scanned = record { byte = 46; others = []; whole = refl; line = refl; piece = dot_piece byte after h; inside = refl };
  stays = refl;
}

-- the first byte of a name, and of a number
pub name_first : (text after : List ℕ) → is_name text ≡ true → first_is is_word_byte (text ++ after) ≡ true
name_first [] after h = absurd (false≢true h)
name_first (byte ∷ others) after h =
    (and_parts (is_word_byte byte) (is_run others) (and_parts (is_letter byte) (is_run (byte ∷ others)) h).1).0

-- the first byte of digits goes on in names and numbers
digits_first : (text after : List ℕ) → 0 < length text → list_all is_ascii_digit text ≡ true
    → first_is is_word_byte (text ++ after) ≡ true
digits_first [] after some h = absurd (omega arith)
digits_first (byte ∷ others) after some h =
    digit_is_run_byte byte (and_parts (is_ascii_digit byte) (list_all is_ascii_digit others) h).0

-- and so does that of a number
pub number_first : (n : ℕ) (after : List ℕ) → n < 2 ^ 32 → first_is is_word_byte (decimal n ++ after) ≡ true
number_first n after h =
    let numeral = decimal_is_IsNumeral n (omega arith) in
    digits_first (decimal n) after numeral.0.0 (digits_of_values (decimal n) numeral.0.1)
