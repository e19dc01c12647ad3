-- Names and numbers as they are written are scanned as what they are.
use Rattle.std.proofs.Common.{◌≡◌, ℕ, ◌^◌, true, arith, ◌+◌, Bool, not, List, ◌∷◌, ◌++◌, length, length-append, refl, false, [], ◌==◌, one-add, ◌<◌, ◌&&◌, ◌≤◌}
use Rattle.std.specs.Prelude.{nat_lt, Option, nat_eq, codes, Some, nat_le, decimal}
use Rattle.std.proofs.lemmas.Bool.{lt-ltb, and_parts, and_from}
use Rattle.tta_text.specs.Numbers.{negated, number_of, digits_of, value_below}
use Rattle.std.proofs.lemmas.List.{drop_at, take_at}
use Rattle.tta_text.specs.declared.lexeme.Kind.{Kind}
use Rattle.tta_text.specs.Bytes.{is_newline, is_blank, is_word_byte, is_name_start}
use Rattle.tta_text.specs.Tokens.{piece_at, with_token, line_after, tokens_from, token, number_piece}
use Rattle.tta_text.proofs.Turns.{tokens_from-piece-cons}
use Rattle.std.specs.List.{list_all, prefix_len, starts_with}
use Rattle.tta_text.specs.Words.{first_is, is_letter, is_run, is_name}
use Rattle.std.proofs.lemmas.Bool.Decides.{nat_tests}
use Rattle.tta_text.specs.declared.lexeme.Kind.TheVariants.{Name, Number}
use Rattle.std.specs.Char.{is_ascii_digit, digit_value, is_digit}
use Rattle.std.proofs.lemmas.Str.Parse.{digit_at}
use Rattle.std.specs.Str.Parse.{AllDigits}
use Rattle.std.proofs.lemmas.Fmt.{decimal_is_IsNumeral, length-decimal-le}
use Rattle.tta_text.proofs.Shapes.{digit_is_run_byte}

pub negated_under : (m : ℕ) → nat_lt (negated m) (2 ^ 32) ≡ true
negated_under m = lt-ltb (negated m) (2 ^ 32) (omega arith)

-- the tokens of bytes whose first piece is known
pub tokens-front : (byte : ℕ) (others rest : List ℕ) (is_open : Bool) (line at : ℕ) (kind : Option Kind)
    → piece_at byte (others ++ rest) ≡ record { kind = kind; len = length (byte ∷ others) }
    → tokens_from 0 is_open line at (byte ∷ (others ++ rest))
    ≡ with_token kind line at (at + length (byte ∷ others))
    (tokens_from 0 (not (is_newline byte)) (line_after byte line) (at + length (byte ∷ others)) rest)
tokens-front byte others rest is_open line at kind piece =
    let long : length (byte ∷ (others ++ rest)) ≡ length (byte ∷ others) + length rest = length-append (byte ∷ others) rest in
    let cut = tokens_from-piece-cons byte (others ++ rest) is_open line at (rw piece (omega arith)) (rw piece (omega (arith, long))) in
    rw (piece, drop_at (byte ∷ others) rest (length (byte ∷ others)) refl) at cut

-- a run is as long as the bytes that pass
pub prefix_len-seam : (p : ℕ → Bool) (xs ys : List ℕ) → list_all p xs ≡ true → first_is p ys ≡ false
    → prefix_len p (xs ++ ys) ≡ length xs
prefix_len-seam p [] [] h stop = refl
prefix_len-seam p [] (y ∷ ys) h stop = rw stop refl
prefix_len-seam p (x ∷ xs) ys h stop =
    let parts = and_parts (p x) (list_all p xs) h in
    rw (parts.0, prefix_len-seam p xs ys parts.1 stop) (omega arith)

-- a letter begins nothing but a name
pub letter-line : (byte : ℕ) → is_letter byte ≡ true → is_newline byte ≡ false
letter-line byte h = grind (arith, nat_tests)

-- a letter is no blank
pub letter-blank : (byte : ℕ) → is_letter byte ≡ true → is_blank byte ≡ false
letter-blank byte h = grind (arith, nat_tests)

-- nor does it begin a comment
pub letter-comment : (byte : ℕ) → is_letter byte ≡ true → (byte == 35) ≡ false
letter-comment byte h = grind (arith, nat_tests)

-- a name and nothing more is the piece at the start
pub name_piece : (byte : ℕ) (others after : List ℕ) → is_name (byte ∷ others) ≡ true → first_is is_word_byte after ≡ false
    → piece_at byte (others ++ after) ≡ token Name (length (byte ∷ others))
unfolding piece_at
name_piece byte others after h stop =
    let parts = and_parts (is_letter byte) (is_run (byte ∷ others)) h in
    let letter : is_name_start byte ≡ true = parts.0 in
    let run = (and_parts (is_word_byte byte) (is_run others) parts.1).1 in
    let newline = letter-line byte letter in
    let blank = letter-blank byte letter in
    let comment = letter-comment byte letter in
    let long = prefix_len-seam is_word_byte others after run stop in
    rw (newline, blank, comment, letter, long, one-add) refl

-- a byte with a value below 10 is a decimal digit
pub digit_of_value : (c : ℕ) → digit_value c < 10 → is_ascii_digit c ≡ true
digit_of_value c h =
    let range = digit_at (c ∷ []) 0 (h, tt) (omega arith) in grind (arith, nat_tests)

-- bytes with such values are decimal digits
pub digits_of_values : (ds : List ℕ) → AllDigits 10 ds → list_all is_ascii_digit ds ≡ true
digits_of_values [] h = refl
digits_of_values (c ∷ cs) h = and_from (is_ascii_digit c) (list_all is_ascii_digit cs) (digit_of_value c h.0) (digits_of_values cs h.1)

-- such bytes pass the test of digits
pub values_below_ten : (ds : List ℕ) → AllDigits 10 ds → list_all (λ digit. is_digit digit 10) ds ≡ true
values_below_ten [] h = refl
values_below_ten (c ∷ cs) h =
    let first : digit_value c < 10 = h.0 in
    let test : is_digit c 10 ≡ true = grind (arith, nat_tests) in
    and_from (is_digit c 10) (list_all (λ digit. is_digit digit 10) cs) test (values_below_ten cs h.1)

-- the letter x is no digit
pub no_digit : (c : ℕ) → is_ascii_digit c ≡ true → nat_eq 120 c ≡ false
no_digit c h = grind (arith, nat_tests)

-- decimal digits are not hexadecimal
pub not_hexadecimal : (ds : List ℕ) → list_all is_ascii_digit ds ≡ true → starts_with nat_eq ds (codes "0x") ≡ false
not_hexadecimal [] h = refl
not_hexadecimal (a ∷ []) h = elim (nat_eq 48 a) as (λ b. (b && false) ≡ false) [
  | true ↦ refl
  | false ↦ refl
]
not_hexadecimal (a ∷ c ∷ ds) h =
    let second = (and_parts (is_ascii_digit c) (list_all is_ascii_digit ds) (and_parts (is_ascii_digit a) (list_all is_ascii_digit (c ∷ ds)) h).1).0 in
    rw (no_digit c second) (elim (nat_eq 48 a) as (λ b. (b && false) ≡ false) [
      | true ↦ refl
      | false ↦ refl
    ])

-- the number that a number was printed as
pub number_of-decimal : (n : ℕ) → n < 2 ^ 32 → number_of (decimal n) ≡ Some n
unfolding number_of digits_of value_below
number_of-decimal n h =
    let numeral = decimal_is_IsNumeral n (omega arith) in
    let some : 0 < length (decimal n) = numeral.0.0 in
    let few : length (decimal n) ≤ 10 = length-decimal-le 10 n (omega arith) (omega arith) (omega arith) in
    let digits = digits_of_values (decimal n) numeral.0.1 in
    let some_test : nat_lt 0 (length (decimal n)) ≡ true = grind (arith, nat_tests) in
    let few_test : nat_le (length (decimal n)) 10 ≡ true = grind (arith, nat_tests) in
    let below : nat_lt n (2 ^ 32) ≡ true = grind (arith, nat_tests) in
    let value = numeral.1 in
    rw (not_hexadecimal (decimal n) digits, some_test, few_test, values_below_ten (decimal n) numeral.0.1, value, below) refl

-- a digit begins nothing but a number
pub digit-line : (byte : ℕ) → is_ascii_digit byte ≡ true → is_newline byte ≡ false
digit-line byte h = grind (arith, nat_tests)

-- a digit is no blank
pub digit-blank : (byte : ℕ) → is_ascii_digit byte ≡ true → is_blank byte ≡ false
digit-blank byte h = grind (arith, nat_tests)

-- nor does it begin a comment
pub digit-comment : (byte : ℕ) → is_ascii_digit byte ≡ true → (byte == 35) ≡ false
digit-comment byte h = grind (arith, nat_tests)

-- nor a name
pub digit-letter : (byte : ℕ) → is_ascii_digit byte ≡ true → is_name_start byte ≡ false
digit-letter byte h = grind (arith, nat_tests)

-- digits are a run
pub digits-run : (ds : List ℕ) → list_all is_ascii_digit ds ≡ true → list_all is_word_byte ds ≡ true
digits-run [] h = refl
digits-run (c ∷ cs) h =
    let parts = and_parts (is_ascii_digit c) (list_all is_ascii_digit cs) h in
    and_from (is_word_byte c) (list_all is_word_byte cs) (digit_is_run_byte c parts.0) (digits-run cs parts.1)

-- digits with a value are the piece at the start, as a number
pub digits_piece : (byte : ℕ) (others after : List ℕ) (n : ℕ) → list_all is_ascii_digit (byte ∷ others) ≡ true
    → number_of (byte ∷ others) ≡ Some n → first_is is_word_byte after ≡ false
    → piece_at byte (others ++ after) ≡ token Number (length (byte ∷ others))
unfolding piece_at number_piece
digits_piece byte others after n h value stop =
    let parts = and_parts (is_ascii_digit byte) (list_all is_ascii_digit others) h in
    let digit = parts.0 in
    let newline = digit-line byte digit in
    let blank = digit-blank byte digit in
    let comment = digit-comment byte digit in
    let letter = digit-letter byte digit in
    let long = prefix_len-seam is_word_byte others after (digits-run others parts.1) stop in
    let word = take_at (byte ∷ others) after (length (byte ∷ others)) refl in
    rw (newline, blank, comment, letter, digit, long, one-add, word, value) refl
