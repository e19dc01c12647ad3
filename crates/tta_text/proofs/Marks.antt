-- Marks, and bytes that no other kind has, are what the law allows; and so is each piece.
use Rattle.std.proofs.Common.{◌≡◌, ℕ, true, false, ◌==◌, ◌&&◌, ◌||◌, List, [], ◌∷◌, refl, inl, inr}
use Rattle.std.specs.Prelude.{Some, nat_eq, codes, if◌then◌else◌}
use Rattle.std.specs.List.{starts_with}
use Rattle.std.specs.Char.{is_ascii_digit}
use Rattle.std.proofs.lemmas.Bool.{cases_Bool, and_parts, or_right, or_from, both_ways, false≢true, false_from_ne_true, eqb-true}
use Rattle.tta_text.specs.declared.lexeme.Kind.TheVariants.{Mark, Bad}
use Rattle.tta_text.specs.Tokens.{token, piece_at, mark_piece}
use Rattle.tta_text.specs.Words.{first_is, is_letter, is_of_kind, is_blank, is_number, is_mark, is_bad_run, is_bad_negative, is_other}
use Rattle.tta_text.proofs.Shapes.{number_is_run}
use Rattle.tta_text.proofs.Longest.{single_is_longest, arrow_is_longest, dots_are_longest}
use Rattle.tta_text.proofs.Fronts.{Front, quiet}
use Rattle.tta_text.proofs.Taken.{newline_front, blank_front, comment_front, name_front, number_front, negative_front, starts_with_digit-first}

arrow_front : (byte : ℕ) (rest : List ℕ) → starts_with nat_eq (byte ∷ rest) (codes "->") ≡ true
    → (byte == 45 && first_is is_ascii_digit rest) ≡ false → Front byte rest
unfolding piece_at mark_piece
arrow_front byte [] arrow digit =
    let none : false ≡ true = (and_parts (nat_eq 45 byte) false arrow).1 in absurd (false≢true none)
arrow_front byte (second ∷ after) arrow digit =
    let parts = and_parts (nat_eq 45 byte) (nat_eq 62 second && true) arrow in
    let is_minus : 45 ≡ byte = eqb-true 45 byte parts.0 in
    let is_tip : 62 ≡ second = eqb-true 62 second (and_parts (nat_eq 62 second) true parts.1).0 in
    rw (← is_minus, ← is_tip) (quiet 45 (62 ∷ after) (Some Mark) (62 ∷ []) after refl refl refl (refl, arrow_is_longest after))

dots_front : (byte : ℕ) (rest : List ℕ) → starts_with nat_eq (byte ∷ rest) (codes "...") ≡ true → Front byte rest
unfolding piece_at mark_piece
dots_front byte [] dots =
    let none : false ≡ true = (and_parts (nat_eq 46 byte) false dots).1 in absurd (false≢true none)
dots_front byte (second ∷ []) dots =
    let parts = and_parts (nat_eq 46 byte) (nat_eq 46 second && false) dots in
    let none : false ≡ true = (and_parts (nat_eq 46 second) false parts.1).1 in absurd (false≢true none)
dots_front byte (second ∷ third ∷ after) dots =
    let parts = and_parts (nat_eq 46 byte) (nat_eq 46 second && (nat_eq 46 third && true)) dots in
    let more = and_parts (nat_eq 46 second) (nat_eq 46 third && true) parts.1 in
    let one : 46 ≡ byte = eqb-true 46 byte parts.0 in
    let two : 46 ≡ second = eqb-true 46 second more.0 in
    let three : 46 ≡ third = eqb-true 46 third (and_parts (nat_eq 46 third) true more.1).0 in
    rw (← one, ← two, ← three) (quiet 46 (46 ∷ 46 ∷ after) (Some Mark) (46 ∷ 46 ∷ []) after refl refl refl (refl, dots_are_longest after))

-- a byte that begins no token of two bytes, no line end, no blank and no comment
record IsAlone (byte : ℕ) (rest : List ℕ) : Type 0 where
  newline : (byte == 10) ≡ false
  blank : is_blank byte ≡ false
  comment : (byte == 35) ≡ false
  letter : is_letter byte ≡ false
  digit : is_ascii_digit byte ≡ false
  negative : (byte == 45 && first_is is_ascii_digit rest) ≡ false
  arrow : starts_with nat_eq (byte ∷ rest) (codes "->") ≡ false
  dots : starts_with nat_eq (byte ∷ rest) (codes "...") ≡ false

single_piece_is : (byte : ℕ) (rest : List ℕ) → IsAlone byte rest
    → piece_at byte rest ≡ record { kind = Some (if is_mark (byte ∷ []) then Mark else Bad); len = 1 }
unfolding piece_at mark_piece
single_piece_is byte rest alone =
    rw (alone.newline, alone.blank, alone.comment, alone.letter, alone.digit, starts_with_digit-first rest, alone.negative, alone.arrow, alone.dots) (
    elim (is_mark (byte ∷ [])) as
    (λ b. (if b then token Mark 1 else token Bad 1) ≡ record { kind = Some (if b then Mark else Bad); len = 1 }) [
      | true ↦ refl
      | false ↦ refl
    ]
    )

other_is_other : (byte : ℕ) (rest : List ℕ) → IsAlone byte rest → is_mark (byte ∷ []) ≡ false → is_other (byte ∷ []) ≡ true
other_is_other byte rest alone mark =
    let number : is_number (byte ∷ []) ≡ false = false_from_ne_true (is_number (byte ∷ [])) (λ number.
    both_ways _ alone.digit (and_parts (is_ascii_digit byte) _ (number_is_run (byte ∷ []) number)).0
    ) in
    rw (alone.blank, alone.comment, alone.newline, alone.letter, number, mark) refl

single_kind : (byte : ℕ) (rest : List ℕ) → IsAlone byte rest
    → is_of_kind (if is_mark (byte ∷ []) then Mark else Bad) (byte ∷ []) ≡ true
single_kind byte rest alone =
    elim (cases_Bool (is_mark (byte ∷ []))) [
      | inl mark ↦
          let kind : (if is_mark (byte ∷ []) then Mark else Bad) ≡ Mark = rw mark refl in rw kind mark
      | inr other ↦
          let kind : (if is_mark (byte ∷ []) then Mark else Bad) ≡ Bad = rw other refl in
          rw kind (or_right (is_bad_run (byte ∷ []) || is_bad_negative (byte ∷ [])) (is_other (byte ∷ [])) (other_is_other byte rest alone other))
    ]

single_front : (byte : ℕ) (rest : List ℕ) → IsAlone byte rest → Front byte rest
single_front byte rest alone =
    quiet byte rest (Some (if is_mark (byte ∷ []) then Mark else Bad)) [] rest refl (single_piece_is byte rest alone) (rw alone.newline refl) (
      single_kind byte rest alone,
      single_is_longest byte rest (or_from (is_letter byte) (is_ascii_digit byte) alone.letter alone.digit) alone.negative alone.arrow alone.dots,
    )

-- what stands at the start of any bytes
pub front_of : (byte : ℕ) (rest : List ℕ) → Front byte rest
front_of byte rest =
    elim (cases_Bool (byte == 10)) [
      | inl newline ↦ newline_front byte rest newline
      | inr newline ↦ elim (cases_Bool (is_blank byte)) [
        | inl blank ↦ blank_front byte rest newline blank
        | inr blank ↦ elim (cases_Bool (byte == 35)) [
          | inl comment ↦ comment_front byte rest comment
          | inr comment ↦ elim (cases_Bool (is_letter byte)) [
            | inl letter ↦ name_front byte rest newline blank comment letter
            | inr letter ↦ elim (cases_Bool (is_ascii_digit byte)) [
              | inl digit ↦ number_front byte rest newline blank comment letter digit
              | inr digit ↦ elim (cases_Bool (byte == 45 && first_is is_ascii_digit rest)) [
                | inl negative ↦
                    let parts = and_parts (byte == 45) (first_is is_ascii_digit rest) negative in
                    negative_front byte rest parts.0 parts.1
                | inr negative ↦ elim (cases_Bool (starts_with nat_eq (byte ∷ rest) (codes "->"))) [
                  | inl arrow ↦ arrow_front byte rest arrow negative
                  | inr arrow ↦ elim (cases_Bool (starts_with nat_eq (byte ∷ rest) (codes "..."))) [
                    | inl dots ↦ dots_front byte rest dots
                    | inr dots ↦ single_front byte rest (record {
                      newline = newline;
                      blank = blank;
                      comment = comment;
                      letter = letter;
                      digit = digit;
                      negative = negative;
                      arrow = arrow;
                      dots = dots;
                    })
                  ]
                ]
              ]
            ]
          ]
        ]
      ]
    ]
