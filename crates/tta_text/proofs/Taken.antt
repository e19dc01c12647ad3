-- Each piece that the scanner takes is what the law allows.
use Rattle.std.proofs.Common.{◌≡◌, ℕ, ◌+◌, true, false, not, ◌==◌, ◌||◌, List, [], ◌∷◌, ◌++◌, length, take, refl, ap, inl, inr, arith, one-add}
use Rattle.std.specs.Prelude.{Some, None}
use Rattle.std.specs.List.{list_all}
use Rattle.std.specs.Char.{is_ascii_digit}
use Rattle.std.proofs.lemmas.Bool.{cases_Bool, and_from, or_left, or_right, both_ways, false≢true, eqb-true, not-false, not_from_false}
use Rattle.std.proofs.lemmas.List.{take_at, append-nil}
use Rattle.std.proofs.lemmas.Bool.Decides.{nat_tests}
use Rattle.tta_text.specs.declared.lexeme.Kind.TheVariants.{Name, Number, Negative, Eol, Bad}
use Rattle.tta_text.specs.Numbers.{number_of, negative_of}
use Rattle.tta_text.specs.Tokens.{token, piece_at, number_piece, negative_piece, kind_if}
use Rattle.tta_text.specs.Words.{first_is, is_letter, is_run, is_of_kind, is_blank, is_number, is_negative, is_digit_run, is_bad_run, is_bad_negative, is_other}
use Rattle.tta_text.specs.Covers.{is_gap, ends_line}
use Rattle.tta_text.specs.Bytes.{is_word_byte}
use Rattle.tta_text.specs.Bytes.{starts_with_digit}
use Rattle.tta_text.proofs.Shapes.{letter_is_run_byte, digit_is_run_byte, list_all-wider}
use Rattle.tta_text.proofs.Places.{is_some-number_of, is_some-negative_of}
use Rattle.tta_text.proofs.Longest.{run_is_longest, negative_is_longest, single_is_longest}
use Rattle.tta_text.proofs.Fronts.{split, Stands, Front, quiet}

pub newline_front : (byte : ℕ) (rest : List ℕ) → (byte == 10) ≡ true → Front byte rest
unfolding piece_at
newline_front byte rest newline =
    let is_ten : byte ≡ 10 = eqb-true byte 10 newline in
    rw is_ten (
    record {
      kind = Some Eol;
      others = [];
      after = rest;
      whole = refl;
      piece = refl;
      lines = refl;
      opens = refl;
      stands = (refl, single_is_longest 10 rest refl refl refl refl);
    }
    )

pub blank_front : (byte : ℕ) (rest : List ℕ) → (byte == 10) ≡ false → is_blank byte ≡ true → Front byte rest
unfolding piece_at
blank_front byte rest newline blank =
    quiet byte rest None [] rest refl (rw (newline, blank) refl) (rw newline refl) (λ gap after e is_gap_there.
    or_left _ _ (and_from (is_blank byte) (is_gap gap after) blank is_gap_there)
    )

-- a comment goes to the end of its line, and no blanks come after it
line_ends : (after : List ℕ) → first_is (λ byte. not (byte == 10)) after ≡ false → ends_line after ≡ true
line_ends [] h = refl
line_ends (byte ∷ after) h = not-false (byte == 10) h

no_gap_at_line_end : (after gap rest : List ℕ) → first_is (λ byte. not (byte == 10)) after ≡ false
    → after ≡ gap ++ rest → is_gap gap rest ≡ true → gap ≡ []
no_gap_at_line_end after [] rest h e g = refl
no_gap_at_line_end after (byte ∷ gap) rest h e g =
    let newline : byte ≡ 10 = eqb-true byte 10 (not-false (byte == 10) (rw e at h)) in
    let none : false ≡ true = rw newline at g in absurd (false≢true none)

comment_stands : (others after : List ℕ) → list_all (λ byte. not (byte == 10)) others ≡ true
    → first_is (λ byte. not (byte == 10)) after ≡ false → Stands None 35 others after
comment_stands others after line stops gap rest e g =
    let none : gap ≡ [] = no_gap_at_line_end after gap rest stops e g in
    let whole : after ≡ rest = rw none at e in
    let ends : ends_line rest ≡ true = rw (← whole) (line_ends after stops) in
    rw (none, append-nil others) (and_from (list_all (λ byte. not (byte == 10)) others) (ends_line rest) line ends)

pub comment_front : (byte : ℕ) (rest : List ℕ) → (byte == 35) ≡ true → Front byte rest
unfolding piece_at
comment_front byte rest comment =
    let is_hash : byte ≡ 35 = eqb-true byte 35 comment in
    let line = split (λ byte. not (byte == 10)) rest in
    rw is_hash (
    quiet 35 rest None line.front line.after line.whole (rw (line.len, one-add) refl) line.pass (comment_stands line.front line.after line.pass line.stops)
    )

-- no line ends in a run
run_byte_is_no_newline : (byte : ℕ) → is_word_byte byte ≡ true → not (byte == 10) ≡ true
run_byte_is_no_newline byte h = grind (arith, nat_tests)

run_is_quiet : (word : List ℕ) → is_run word ≡ true → list_all (λ byte. not (byte == 10)) word ≡ true
run_is_quiet word h = list_all-wider is_word_byte (λ byte. not (byte == 10)) run_byte_is_no_newline word h

-- the bytes that a piece of a run has
take_word : (byte : ℕ) (others after : List ℕ) → take (1 + length others) (byte ∷ (others ++ after)) ≡ byte ∷ others
take_word byte others after = rw one-add (ap (λ t. byte ∷ t) (take_at others after (length others) refl))

pub name_front : (byte : ℕ) (rest : List ℕ) → (byte == 10) ≡ false → is_blank byte ≡ false → (byte == 35) ≡ false
    → is_letter byte ≡ true → Front byte rest
unfolding piece_at
name_front byte rest newline blank comment letter =
    let word = split is_word_byte rest in
    let run : is_run (byte ∷ word.front) ≡ true =
    and_from (is_word_byte byte) (is_run word.front) (letter_is_run_byte byte letter) word.pass in
    quiet byte rest (Some Name) word.front word.after word.whole (rw (newline, blank, comment, letter, word.len, one-add) refl) (run_is_quiet (byte ∷ word.front) run) (
      and_from (is_letter byte) (is_run (byte ∷ word.front)) letter run,
      run_is_longest byte word.front word.after (or_left (is_letter byte) (is_ascii_digit byte) letter) word.stops,
    )

-- a run that begins with a digit is a number or a bad token
number_kind : (word : List ℕ) → is_digit_run word ≡ true → is_of_kind (kind_if (number_of word) Number) word ≡ true
number_kind word digits =
    elim (cases_Bool (is_number word)) [
      | inl number ↦
          let kind : kind_if (number_of word) Number ≡ Number = rw (is_some-number_of word, number) refl in rw kind number
      | inr other ↦
          let kind : kind_if (number_of word) Number ≡ Bad = rw (is_some-number_of word, other) refl in
          let bad : is_bad_run word ≡ true = and_from (is_digit_run word) (not (is_number word)) digits (not_from_false (is_number word) other) in
          rw kind (or_left (is_bad_run word || is_bad_negative word) (is_other word) (or_left (is_bad_run word) (is_bad_negative word) bad))
    ]

number_piece_is : (byte : ℕ) (rest others after : List ℕ) → rest ≡ others ++ after
    → number_piece (byte ∷ rest) (1 + length others) ≡ token (kind_if (number_of (byte ∷ others)) Number) (length (byte ∷ others))
unfolding number_piece
number_piece_is byte rest others after whole = rw (whole, take_word byte others after, one-add) refl

pub number_front : (byte : ℕ) (rest : List ℕ) → (byte == 10) ≡ false → is_blank byte ≡ false → (byte == 35) ≡ false
    → is_letter byte ≡ false → is_ascii_digit byte ≡ true → Front byte rest
unfolding piece_at
number_front byte rest newline blank comment letter digit =
    let word = split is_word_byte rest in
    let bytes = byte ∷ word.front in
    let run : is_run bytes ≡ true =
    and_from (is_word_byte byte) (is_run word.front) (digit_is_run_byte byte digit) word.pass in
    quiet byte rest (Some (kind_if (number_of bytes) Number)) word.front word.after word.whole (
    rw (newline, blank, comment, letter, digit, word.len) (number_piece_is byte rest word.front word.after word.whole)
    ) (run_is_quiet bytes run) (
      number_kind bytes (and_from (is_ascii_digit byte) (is_run bytes) digit run),
      run_is_longest byte word.front word.after (or_right (is_letter byte) (is_ascii_digit byte) digit) word.stops,
    )

-- "-" and such a run are a negative number or a bad token
negative_kind : (others : List ℕ) → is_digit_run others ≡ true
    → is_of_kind (kind_if (negative_of (45 ∷ others)) Negative) (45 ∷ others) ≡ true
negative_kind others digits =
    let word = 45 ∷ others in
    elim (cases_Bool (is_negative word)) [
      | inl negative ↦
          let kind : kind_if (negative_of word) Negative ≡ Negative = rw (is_some-negative_of word, negative) refl in rw kind negative
      | inr other ↦
          let kind : kind_if (negative_of word) Negative ≡ Bad = rw (is_some-negative_of word, other) refl in
          let bad : is_bad_negative word ≡ true = and_from (is_digit_run others) (not (is_negative word)) digits (not_from_false (is_negative word) other) in
          rw kind (or_left (is_bad_run word || is_bad_negative word) (is_other word) (or_right (is_bad_run word) (is_bad_negative word) bad))
    ]

negative_piece_is : (byte : ℕ) (rest others after : List ℕ) → rest ≡ others ++ after
    → negative_piece (byte ∷ rest) (1 + length others) ≡ token (kind_if (negative_of (byte ∷ others)) Negative) (length (byte ∷ others))
unfolding negative_piece
negative_piece_is byte rest others after whole = rw (whole, take_word byte others after, one-add) refl

-- the digit that a run begins with is in it
pub starts_with_digit-first : (bytes : List ℕ) → starts_with_digit bytes ≡ first_is is_ascii_digit bytes
starts_with_digit-first [] = refl
starts_with_digit-first (byte ∷ bytes) = refl

first_of_front : (bytes front after : List ℕ) → bytes ≡ front ++ after → first_is is_ascii_digit bytes ≡ true
    → first_is is_word_byte after ≡ false → first_is is_ascii_digit front ≡ true
first_of_front bytes [] [] whole digit stops = rw whole at digit
first_of_front bytes [] (byte ∷ after) whole digit stops =
    absurd (both_ways _ stops (digit_is_run_byte byte (rw whole at digit)))
first_of_front bytes (byte ∷ front) after whole digit stops = rw whole at digit

pub negative_front : (byte : ℕ) (rest : List ℕ) → (byte == 45) ≡ true → first_is is_ascii_digit rest ≡ true → Front byte rest
unfolding piece_at
negative_front byte rest sign digit =
    let is_minus : byte ≡ 45 = eqb-true byte 45 sign in
    let word = split is_word_byte rest in
    let first = first_of_front rest word.front word.after word.whole digit word.stops in
    rw is_minus (
    quiet 45 rest (Some (kind_if (negative_of (45 ∷ word.front)) Negative)) word.front word.after word.whole (
    rw (starts_with_digit-first rest, digit, word.len) (negative_piece_is 45 rest word.front word.after word.whole)
    ) (run_is_quiet word.front word.pass) (
      negative_kind word.front (and_from (first_is is_ascii_digit word.front) (is_run word.front) first word.pass),
      negative_is_longest word.front word.after first word.stops,
    )
    )
