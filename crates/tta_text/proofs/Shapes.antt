-- What the bytes of a token of each kind look like, where there are two of them or more.
use Rattle.std.proofs.Common.{◌≡◌, ℕ, ◌+◌, ◌^◌, Bool, true, false, not, ◌==◌, ◌&&◌, ◌||◌, List, [], ◌∷◌, drop, refl, inl, inr, arith}
use Rattle.std.specs.Prelude.{nat_eq, codes}
use Rattle.std.specs.List.{list_all, starts_with}
use Rattle.std.specs.Char.{is_ascii_digit, is_ascii_hexdigit}
use Rattle.std.proofs.lemmas.Bool.{and_parts, and_from, or_cases, or_left, or_right, eqb-true, false≢true}
use Rattle.std.proofs.lemmas.Bool.Decides.{nat_tests}
use Rattle.tta_text.specs.declared.lexeme.Kind.{Kind}
use Rattle.tta_text.specs.declared.lexeme.Kind.TheVariants.{Name, Number, Negative, Mark, Eol, Bad}
use Rattle.tta_text.specs.Words.{first_is, is_letter, is_run, is_name, is_decimal, is_hexadecimal, is_number, is_negative, is_mark, is_other, is_digit_run, is_bad_run, is_bad_negative, is_bad, is_of_kind}
use Rattle.tta_text.specs.Bytes.{is_word_byte}

pub letter_is_run_byte : (byte : ℕ) → is_letter byte ≡ true → is_word_byte byte ≡ true
letter_is_run_byte byte h = grind (arith, nat_tests)

pub digit_is_run_byte : (byte : ℕ) → is_ascii_digit byte ≡ true → is_word_byte byte ≡ true
digit_is_run_byte byte h = grind (arith, nat_tests)

hexdigit_is_run_byte : (byte : ℕ) → is_ascii_hexdigit byte ≡ true → is_word_byte byte ≡ true
hexdigit_is_run_byte byte h = grind (arith, nat_tests)

-- bytes that all pass a test pass a wider one
pub list_all-wider : (p q : ℕ → Bool) → ((x : ℕ) → p x ≡ true → q x ≡ true) → (xs : List ℕ)
    → list_all p xs ≡ true → list_all q xs ≡ true
list_all-wider p q wider [] h = refl
list_all-wider p q wider (x ∷ xs) h =
    let parts = and_parts (p x) (list_all p xs) h in
    and_from (q x) (list_all q xs) (wider x parts.0) (list_all-wider p q wider xs parts.1)

-- decimal digits are a run
pub decimal_is_run : (limit : ℕ) (word : List ℕ) → is_decimal limit word ≡ true → is_digit_run word ≡ true
decimal_is_run limit [] h = cc
decimal_is_run limit (byte ∷ word) h =
    let digits = (and_parts _ _ (and_parts _ _ h).1).0 in
    and_from _ _ (and_parts _ _ digits).0 (list_all-wider is_ascii_digit is_word_byte digit_is_run_byte (byte ∷ word) digits)

-- "0x" and hexadecimal digits are one too
hexadecimal_is_run : (word : List ℕ) → (starts_with nat_eq word (codes "0x") && is_hexadecimal (drop 2 word)) ≡ true
    → is_digit_run word ≡ true
hexadecimal_is_run [] h = cc
hexadecimal_is_run (first ∷ []) h =
    let none : false ≡ true = (and_parts (nat_eq 48 first) false (and_parts _ _ h).0).1 in cc
hexadecimal_is_run (first ∷ second ∷ word) h =
    let prefix = and_parts (nat_eq 48 first) (nat_eq 120 second && true) (and_parts _ _ h).0 in
    let zero_first : 48 ≡ first = eqb-true 48 first prefix.0 in
    let letter_second : 120 ≡ second = eqb-true 120 second (and_parts (nat_eq 120 second) true prefix.1).0 in
    let digits = (and_parts _ _ (and_parts _ _ h).1).1 in
    let run = list_all-wider is_ascii_hexdigit is_word_byte hexdigit_is_run_byte word digits in
    rw (← zero_first, ← letter_second) run

pub number_is_run : (word : List ℕ) → is_number word ≡ true → is_digit_run word ≡ true
number_is_run word h =
    elim (or_cases _ _ h) [
      | inl decimal ↦ decimal_is_run (2 ^ 32) word decimal
      | inr hexadecimal ↦ hexadecimal_is_run word hexadecimal
    ]

-- the tokens of two bytes or more, by their first byte and the others
pub data IsLong (byte : ℕ) (others : List ℕ) : Type 0 where
  run : (is_letter byte || is_ascii_digit byte) ≡ true → is_run others ≡ true → IsLong byte others
  minus : byte ≡ 45 → first_is is_ascii_digit others ≡ true → is_run others ≡ true → IsLong byte others
  arrow : byte ≡ 45 → others ≡ 62 ∷ [] → IsLong byte others
  dots : byte ≡ 46 → others ≡ 46 ∷ 46 ∷ [] → IsLong byte others

name_is_long : (byte : ℕ) (others : List ℕ) → is_name (byte ∷ others) ≡ true → IsLong byte others
name_is_long byte others h =
    let parts = and_parts _ _ h in run (or_left _ _ parts.0) (and_parts _ _ parts.1).1

digits_are_long : (byte : ℕ) (others : List ℕ) → is_digit_run (byte ∷ others) ≡ true → IsLong byte others
digits_are_long byte others h =
    let parts = and_parts _ _ h in run (or_right (is_letter byte) _ parts.0) (and_parts _ _ parts.1).1

minus_is_long : (byte : ℕ) (others : List ℕ) → (byte == 45) ≡ true → is_digit_run others ≡ true → IsLong byte others
minus_is_long byte others sign h =
    let parts = and_parts _ _ h in minus (eqb-true byte 45 sign) parts.0 parts.1

negative_is_long : (byte : ℕ) (others : List ℕ) → is_negative (byte ∷ others) ≡ true → IsLong byte others
negative_is_long byte others h =
    let parts = and_parts _ _ h in minus_is_long byte others parts.0 (decimal_is_run (2 ^ 31 + 1) others parts.1)

mark_is_long : (byte second : ℕ) (word : List ℕ) → is_mark (byte ∷ second ∷ word) ≡ true → IsLong byte (second ∷ word)
mark_is_long byte second [] h =
    let parts = and_parts _ _ h in
    let head = eqb-true second 62 parts.1 in
    arrow (eqb-true byte 45 parts.0) (rw head refl)
mark_is_long byte second (third ∷ []) h =
    let parts = and_parts _ _ h in
    let more = and_parts _ _ parts.1 in
    let one = eqb-true second 46 more.0 in
    let two = eqb-true third 46 more.1 in
    dots (eqb-true byte 46 parts.0) (rw (one, two) refl)
mark_is_long byte second (third ∷ fourth ∷ word) h = cc

bad_run_is_long : (byte : ℕ) (others : List ℕ) → is_bad_run (byte ∷ others) ≡ true → IsLong byte others
bad_run_is_long byte others h = digits_are_long byte others (and_parts _ (not (is_number (byte ∷ others))) h).0

bad_negative_is_long : (byte : ℕ) (others : List ℕ) → is_bad_negative (byte ∷ others) ≡ true → IsLong byte others
bad_negative_is_long byte others h =
    let parts = and_parts (byte == 45) _ (and_parts _ (not (is_negative (byte ∷ others))) h).0 in
    minus_is_long byte others parts.0 parts.1

bad_is_long : (byte second : ℕ) (word : List ℕ) → is_bad (byte ∷ second ∷ word) ≡ true → IsLong byte (second ∷ word)
bad_is_long byte second word h =
    let bytes = byte ∷ second ∷ word in
    elim (or_cases (is_bad_run bytes || is_bad_negative bytes) (is_other bytes) h) [
      | inl runs ↦ elim (or_cases (is_bad_run bytes) (is_bad_negative bytes) runs) [
        | inl digits ↦ bad_run_is_long byte (second ∷ word) digits
        | inr signed ↦ bad_negative_is_long byte (second ∷ word) signed
      ]
      | inr other ↦ let none : false ≡ true = other in absurd (false≢true none)
    ]

-- each token of two bytes or more is one of these
pub token_is_long : (kind : Kind) (byte second : ℕ) (word : List ℕ) → is_of_kind kind (byte ∷ second ∷ word) ≡ true
    → IsLong byte (second ∷ word)
token_is_long Name byte second word h = name_is_long byte (second ∷ word) h
token_is_long Number byte second word h = digits_are_long byte (second ∷ word) (number_is_run (byte ∷ second ∷ word) h)
token_is_long Negative byte second word h = negative_is_long byte (second ∷ word) h
token_is_long Mark byte second word h = mark_is_long byte second word h
token_is_long Eol byte second word h = cc
token_is_long Bad byte second word h = bad_is_long byte second word h
