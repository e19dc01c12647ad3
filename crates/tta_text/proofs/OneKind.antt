-- No bytes are tokens of two kinds.
use Rattle.std.proofs.Common.{◌≡◌, ℕ, ◌+◌, ◌^◌, true, false, not, ◌==◌, ◌&&◌, ◌||◌, List, [], ◌∷◌, refl, sym, ◌∙◌, inl, inr, arith}
use Rattle.std.specs.Prelude.{if◌then◌else◌}
use Rattle.std.specs.Char.{is_ascii_digit}
use Rattle.std.proofs.lemmas.Bool.{cases_Bool, and_parts, and_from, or_cases, both_ways, false≢true, false_from_ne_true, eqb-true, not-true}
use Rattle.std.proofs.lemmas.Bool.Decides.{nat_tests}
use Rattle.tta_text.specs.declared.lexeme.Kind.{Kind}
use Rattle.tta_text.specs.declared.lexeme.Kind.TheVariants.{Name, Number, Negative, Mark, Eol, Bad}
use Rattle.tta_text.specs.Words.{first_is, is_letter, is_run, is_name, is_decimal, is_number, is_negative, is_mark, is_line_end, is_blank, is_other, is_digit_run, is_bad_run, is_bad_negative, is_bad, is_of_kind}
use Rattle.tta_text.specs.Bytes.{is_word_byte}
use Rattle.tta_text.proofs.Shapes.{letter_is_run_byte, digit_is_run_byte, number_is_run, decimal_is_run}

-- the kind that bytes have, if they are a token
kind_of : List ℕ → Kind
kind_of word =
    if first_is is_letter word then Name
    else if first_is is_ascii_digit word then (if is_number word then Number else Bad)
    else if is_line_end word then Eol
    else if is_mark word then Mark
    else if is_negative word then Negative
    else Bad

digit_is_no_letter : (byte : ℕ) → is_ascii_digit byte ≡ true → is_letter byte ≡ false
digit_is_no_letter byte h = grind (arith, nat_tests)

first_digit_is_no_letter : (word : List ℕ) → first_is is_ascii_digit word ≡ true → first_is is_letter word ≡ false
first_digit_is_no_letter [] h = refl
first_digit_is_no_letter (byte ∷ word) h = digit_is_no_letter byte h

kind_of-number : (word : List ℕ) → is_number word ≡ true → kind_of word ≡ Number
unfolding kind_of
kind_of-number word h =
    let digit = (and_parts (first_is is_ascii_digit word) (is_run word) (number_is_run word h)).0 in
    rw (first_digit_is_no_letter word digit, digit, h) refl

kind_of-bad_run : (word : List ℕ) → is_bad_run word ≡ true → kind_of word ≡ Bad
unfolding kind_of
kind_of-bad_run word h =
    let parts = and_parts (is_digit_run word) (not (is_number word)) h in
    let digit = (and_parts (first_is is_ascii_digit word) (is_run word) parts.0).0 in
    rw (first_digit_is_no_letter word digit, digit, not-true (is_number word) parts.1) refl

-- "-" before a digit is neither a mark nor the end of a line
digit_is_no_arrow : (byte : ℕ) → is_ascii_digit byte ≡ true → (byte == 62) ≡ false
digit_is_no_arrow byte h = grind (arith, nat_tests)

minus_is_no_mark : (word : List ℕ) → first_is is_ascii_digit word ≡ true → is_mark (45 ∷ word) ≡ false
minus_is_no_mark [] h = absurd (false≢true h)
minus_is_no_mark (second ∷ []) h = digit_is_no_arrow second h
minus_is_no_mark (second ∷ third ∷ []) h = refl
minus_is_no_mark (second ∷ third ∷ fourth ∷ word) h = refl

minus_is_no_line_end : (word : List ℕ) → is_line_end (45 ∷ word) ≡ false
minus_is_no_line_end [] = refl
minus_is_no_line_end (second ∷ word) = refl

kind_of-minus : (word : List ℕ) → first_is is_ascii_digit word ≡ true
    → kind_of (45 ∷ word) ≡ (if is_negative (45 ∷ word) then Negative else Bad)
unfolding kind_of
kind_of-minus word h = rw (minus_is_no_line_end word, minus_is_no_mark word h) refl

kind_of-negative : (word : List ℕ) → is_negative word ≡ true → kind_of word ≡ Negative
kind_of-negative [] h = absurd (false≢true h)
kind_of-negative (byte ∷ word) h =
    let parts = and_parts (byte == 45) (is_decimal (2 ^ 31 + 1) word) h in
    let is_minus : byte ≡ 45 = eqb-true byte 45 parts.0 in
    let digit = (and_parts (first_is is_ascii_digit word) (is_run word) (decimal_is_run (2 ^ 31 + 1) word parts.1)).0 in
    let negative : is_negative (45 ∷ word) ≡ true = parts.1 in
    let kind : kind_of (45 ∷ word) ≡ Negative = kind_of-minus word digit ∙ rw negative refl in
    rw is_minus kind

kind_of-bad_negative : (word : List ℕ) → is_bad_negative word ≡ true → kind_of word ≡ Bad
kind_of-bad_negative [] h = absurd (false≢true h)
kind_of-bad_negative (byte ∷ word) h =
    let outer = and_parts (byte == 45 && is_digit_run word) (not (is_negative (byte ∷ word))) h in
    let parts = and_parts (byte == 45) (is_digit_run word) outer.0 in
    let is_minus : byte ≡ 45 = eqb-true byte 45 parts.0 in
    let digit = (and_parts (first_is is_ascii_digit word) (is_run word) parts.1).0 in
    let other : is_negative (45 ∷ word) ≡ false = rw is_minus at (not-true (is_negative (byte ∷ word)) outer.1) in
    let kind : kind_of (45 ∷ word) ≡ Bad = kind_of-minus word digit ∙ rw other refl in
    rw is_minus kind

-- a mark begins with no letter and no digit, and is no line end
mark_byte_is_no_run_byte : (byte : ℕ) → is_mark (byte ∷ []) ≡ true → is_word_byte byte ≡ false
mark_byte_is_no_run_byte byte h = grind (arith, nat_tests)

kind_of-mark : (word : List ℕ) → is_mark word ≡ true → kind_of word ≡ Mark
unfolding kind_of
kind_of-mark [] h = absurd (false≢true h)
kind_of-mark (byte ∷ []) h =
    let run_byte = mark_byte_is_no_run_byte byte h in
    let letter : is_letter byte ≡ false = false_from_ne_true (is_letter byte) (λ l. both_ways _ run_byte (letter_is_run_byte byte l)) in
    let digit : is_ascii_digit byte ≡ false = false_from_ne_true (is_ascii_digit byte) (λ d. both_ways _ run_byte (digit_is_run_byte byte d)) in
    let newline : (byte == 10) ≡ false = false_from_ne_true (byte == 10) (λ n. false≢true (rw (eqb-true byte 10 n) at h)) in
    rw (letter, digit, newline, h) refl
kind_of-mark (first ∷ second ∷ []) h =
    let parts = and_parts (first == 45) (second == 62) h in
    let is_minus = eqb-true first 45 parts.0 in
    let is_tip = eqb-true second 62 parts.1 in
    rw (is_minus, is_tip) refl
kind_of-mark (first ∷ second ∷ third ∷ []) h =
    let parts = and_parts (first == 46) (second == 46 && third == 46) h in
    let more = and_parts (second == 46) (third == 46) parts.1 in
    let one = eqb-true first 46 parts.0 in
    let two = eqb-true second 46 more.0 in
    let three = eqb-true third 46 more.1 in
    rw (one, two, three) refl
kind_of-mark (first ∷ second ∷ third ∷ fourth ∷ word) h = absurd (false≢true h)

kind_of-line_end : (word : List ℕ) → is_line_end word ≡ true → kind_of word ≡ Eol
unfolding kind_of
kind_of-line_end [] h = absurd (false≢true h)
kind_of-line_end (byte ∷ []) h = let newline = eqb-true byte 10 h in rw newline refl
kind_of-line_end (first ∷ second ∷ word) h = absurd (false≢true h)

kind_of-name : (word : List ℕ) → is_name word ≡ true → kind_of word ≡ Name
unfolding kind_of
kind_of-name word h = let letter = (and_parts (first_is is_letter word) (is_run word) h).0 in rw letter refl

-- one byte is no negative number
single_is_no_negative : (byte : ℕ) → is_negative (byte ∷ []) ≡ false
single_is_no_negative byte =
    elim (byte == 45) as (λ b. (b && false) ≡ false) [ true ↦ refl | false ↦ refl ]

kind_of-digits : (word : List ℕ) → first_is is_letter word ≡ false → first_is is_ascii_digit word ≡ true
    → is_number word ≡ false → kind_of word ≡ Bad
unfolding kind_of
kind_of-digits word letter digit number = rw (letter, digit, number) refl

kind_of-other : (word : List ℕ) → is_other word ≡ true → kind_of word ≡ Bad
unfolding kind_of
kind_of-other [] h = absurd (false≢true h)
kind_of-other (byte ∷ []) h =
    let word = byte ∷ [] in
    let parts = and_parts (not (is_blank byte) && not (byte == 35) && not (byte == 10)) (not (is_name word) && not (is_number word) && not (is_mark word)) h in
    let newline = not-true (byte == 10) (and_parts (not (is_blank byte) && not (byte == 35)) (not (byte == 10)) parts.0).1 in
    let kinds = and_parts (not (is_name word) && not (is_number word)) (not (is_mark word)) parts.1 in
    let runs = and_parts (not (is_name word)) (not (is_number word)) kinds.0 in
    let name = not-true (is_name word) runs.0 in
    let number = not-true (is_number word) runs.1 in
    let mark = not-true (is_mark word) kinds.1 in
    let letter : is_letter byte ≡ false = false_from_ne_true (is_letter byte) (λ l.
    both_ways (is_name word) name (and_from (is_letter byte) (is_run word) l (and_from (is_word_byte byte) true (letter_is_run_byte byte l) refl))
    ) in
    elim (cases_Bool (is_ascii_digit byte)) [
      | inl digit ↦ kind_of-digits word letter digit number
      | inr digit ↦ rw (letter, digit, newline, mark, single_is_no_negative byte) refl
    ]
kind_of-other (first ∷ second ∷ word) h = absurd (false≢true h)

kind_of-bad : (word : List ℕ) → is_bad word ≡ true → kind_of word ≡ Bad
kind_of-bad word h =
    elim (or_cases (is_bad_run word || is_bad_negative word) (is_other word) h) [
      | inl runs ↦ elim (or_cases (is_bad_run word) (is_bad_negative word) runs) [
        | inl digits ↦ kind_of-bad_run word digits
        | inr signed ↦ kind_of-bad_negative word signed
      ]
      | inr other ↦ kind_of-other word other
    ]

kind_of-kind : (kind : Kind) (word : List ℕ) → is_of_kind kind word ≡ true → kind_of word ≡ kind
kind_of-kind Name word h = kind_of-name word h
kind_of-kind Number word h = kind_of-number word h
kind_of-kind Negative word h = kind_of-negative word h
kind_of-kind Mark word h = kind_of-mark word h
kind_of-kind Eol word h = kind_of-line_end word h
kind_of-kind Bad word h = kind_of-bad word h

pub one_kind : (first second : Kind) (word : List ℕ) → is_of_kind first word ≡ true → is_of_kind second word ≡ true
    → first ≡ second
one_kind first second word one two = sym (kind_of-kind first word one) ∙ kind_of-kind second word two
