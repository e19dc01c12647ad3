-- Only one list of tokens covers a text.
use Rattle.std.proofs.Common.{◌≡◌, ℕ, Bool, true, false, not, ◌==◌, ◌&&◌, ◌||◌, List, [], ◌∷◌, ◌++◌, refl, sym, ◌∙◌, inl, inr, arith}
use Rattle.std.specs.Prelude.{◌⊎◌}
use Rattle.std.specs.List.{list_all}
use Rattle.std.proofs.lemmas.Bool.{and_parts, or_cases, or_left, or_right, both_ways, false≢true, false_from_ne_true, eqb-true}
use Rattle.std.proofs.lemmas.Bool.Decides.{nat_tests}
use Rattle.std.proofs.lemmas.List.{append-nil}
use Rattle.tta_text.specs.declared.lexeme.Kind.{Kind}
use Rattle.tta_text.specs.declared.lexeme.Kind.TheVariants.{Name, Number, Negative, Mark, Eol, Bad}
use Rattle.tta_text.specs.declared.lexeme.Token.{Token}
use Rattle.tta_text.specs.Tokens.{tokens_of}
use Rattle.tta_text.specs.Words.{first_is, is_blank, is_of_kind}
use Rattle.tta_text.specs.Covers.{is_gap, ends_line, IsNext, Follow, Covers}
use Rattle.tta_text.proofs.Shapes.{IsLong, run, minus, arrow, dots, token_is_long}
use Rattle.tta_text.proofs.Longest.{IsLongest}
use Rattle.tta_text.proofs.OneKind.{one_kind}
use Rattle.tta_text.proofs.Covering.{tokens_of-covers}

-- a byte that begins a blank or a comment
abbrev is_skipped : ℕ → Bool
is_skipped byte = is_blank byte || byte == 35

-- whether some bytes end no line, since none of them is a newline
abbrev is_quiet : List ℕ → Bool
is_quiet bytes = list_all (λ byte. not (byte == 10)) bytes

-- where a line ends first is one place
line_is_one : (one two s t : List ℕ) → is_quiet one ≡ true → is_quiet two ≡ true → ends_line s ≡ true → ends_line t ≡ true
    → one ++ s ≡ two ++ t → (one ≡ two) × (s ≡ t)
line_is_one [] [] s t p q e f whole = (refl, whole)
line_is_one [] (byte ∷ two) s t p q e f whole =
    let newline : byte ≡ 10 = eqb-true byte 10 (rw whole at e) in
    absurd (false≢true (rw newline at (and_parts (not (byte == 10)) (is_quiet two) q).0))
line_is_one (byte ∷ one) [] s t p q e f whole =
    let newline : byte ≡ 10 = eqb-true byte 10 (rw (← whole) at f) in
    absurd (false≢true (rw newline at (and_parts (not (byte == 10)) (is_quiet one) p).0))
line_is_one (byte ∷ one) (other ∷ two) s t p q e f whole =
    let head : byte ≡ other = cc in
    let tail : one ++ s ≡ two ++ t = cc in
    let same = line_is_one one two s t (and_parts (not (byte == 10)) (is_quiet one) p).1 (and_parts (not (other == 10)) (is_quiet two) q).1 e f tail in
    (let front = same.0 in cc, same.1)

gap_first : (byte : ℕ) (gap rest : List ℕ) → is_gap (byte ∷ gap) rest ≡ true → is_skipped byte ≡ true
gap_first byte gap rest h =
    elim (or_cases (is_blank byte && is_gap gap rest) (byte == 35 && is_quiet gap && ends_line rest) h) [
      | inl blank ↦ or_left (is_blank byte) (byte == 35) (and_parts (is_blank byte) (is_gap gap rest) blank).0
      | inr comment ↦ or_right (is_blank byte) (byte == 35) (and_parts (byte == 35) (is_quiet gap) (and_parts (byte == 35 && is_quiet gap) (ends_line rest) comment).0).0
    ]

-- what a gap begins with
data IsGapBy (byte : ℕ) (gap rest : List ℕ) : Type 0 where
  blank : is_blank byte ≡ true → is_gap gap rest ≡ true → IsGapBy byte gap rest
  comment : byte ≡ 35 → is_quiet gap ≡ true → ends_line rest ≡ true → IsGapBy byte gap rest

gap_by : (byte : ℕ) (gap rest : List ℕ) → is_gap (byte ∷ gap) rest ≡ true → IsGapBy byte gap rest
gap_by byte gap rest h =
    elim (or_cases (is_blank byte && is_gap gap rest) (byte == 35 && is_quiet gap && ends_line rest) h) [
      | inl blanks ↦ let parts = and_parts (is_blank byte) (is_gap gap rest) blanks in blank parts.0 parts.1
      | inr comments ↦
          let parts = and_parts (byte == 35 && is_quiet gap) (ends_line rest) comments in
          let more = and_parts (byte == 35) (is_quiet gap) parts.0 in comment (eqb-true byte 35 more.0) more.1 parts.1
    ]

-- blanks and comments go to the next token, and no further
gap_is_one : (one two s t : List ℕ) → is_gap one s ≡ true → is_gap two t ≡ true → first_is is_skipped s ≡ false
    → first_is is_skipped t ≡ false → one ++ s ≡ two ++ t → (one ≡ two) × (s ≡ t)
gap_is_one [] [] s t g h e f whole = (refl, whole)
gap_is_one [] (byte ∷ two) s t g h e f whole = absurd (both_ways _ (rw whole at e) (gap_first byte two t h))
gap_is_one (byte ∷ one) [] s t g h e f whole = absurd (both_ways _ (rw (← whole) at f) (gap_first byte one s g))
gap_is_one (byte ∷ one) (other ∷ two) s t g h e f whole =
    let head : byte ≡ other = cc in
    let tail : one ++ s ≡ two ++ t = cc in
    elim (gap_by byte one s g) [
      | blank b more ↦ elim (gap_by other two t h) [
        | blank c rest ↦ let same = gap_is_one one two s t more rest e f tail in (let front = same.0 in cc, same.1)
        | comment c line ends ↦ absurd (false≢true (rw (head, c) at b))
      ]
      | comment b line ends ↦ elim (gap_by other two t h) [
        | blank c rest ↦ absurd (false≢true (rw (← head, b) at c))
        | comment c other_line other_ends ↦
            let same = line_is_one one two s t line other_line ends other_ends tail in (let front = same.0 in cc, same.1)
      ]
    ]

-- no token begins with a blank or a comment
long_first : (byte : ℕ) (others : List ℕ) → IsLong byte others → is_skipped byte ≡ false
long_first byte others (run first _) = grind (arith, nat_tests)
long_first byte others (minus sign _ _) = rw sign refl
long_first byte others (arrow sign _) = rw sign refl
long_first byte others (dots dot _) = rw dot refl

blank_is_no_token : (kind : Kind) → is_of_kind kind (32 ∷ []) ≡ false
blank_is_no_token kind =
    elim kind as (λ k. is_of_kind k (32 ∷ []) ≡ false) [ Name ↦ refl | Number ↦ refl | Negative ↦ refl | Mark ↦ refl | Eol ↦ refl | Bad ↦ refl ]

tab_is_no_token : (kind : Kind) → is_of_kind kind (9 ∷ []) ≡ false
tab_is_no_token kind =
    elim kind as (λ k. is_of_kind k (9 ∷ []) ≡ false) [ Name ↦ refl | Number ↦ refl | Negative ↦ refl | Mark ↦ refl | Eol ↦ refl | Bad ↦ refl ]

return_is_no_token : (kind : Kind) → is_of_kind kind (13 ∷ []) ≡ false
return_is_no_token kind =
    elim kind as (λ k. is_of_kind k (13 ∷ []) ≡ false) [ Name ↦ refl | Number ↦ refl | Negative ↦ refl | Mark ↦ refl | Eol ↦ refl | Bad ↦ refl ]

hash_is_no_token : (kind : Kind) → is_of_kind kind (35 ∷ []) ≡ false
hash_is_no_token kind =
    elim kind as (λ k. is_of_kind k (35 ∷ []) ≡ false) [ Name ↦ refl | Number ↦ refl | Negative ↦ refl | Mark ↦ refl | Eol ↦ refl | Bad ↦ refl ]

skipped_is_no_token : (kind : Kind) (byte : ℕ) → is_skipped byte ≡ true → is_of_kind kind (byte ∷ []) ≡ false
skipped_is_no_token kind byte h =
    elim (or_cases (is_blank byte) (byte == 35) h) [
      | inl blanks ↦ elim (or_cases (byte == 32 || byte == 9) (byte == 13) blanks) [
        | inl spaces ↦ elim (or_cases (byte == 32) (byte == 9) spaces) [
          | inl space ↦ rw (eqb-true byte 32 space) (blank_is_no_token kind)
          | inr tab ↦ rw (eqb-true byte 9 tab) (tab_is_no_token kind)
        ]
        | inr return ↦ rw (eqb-true byte 13 return) (return_is_no_token kind)
      ]
      | inr hash ↦ rw (eqb-true byte 35 hash) (hash_is_no_token kind)
    ]

nothing_is_no_token : (kind : Kind) → is_of_kind kind [] ≡ false
nothing_is_no_token kind =
    elim kind as (λ k. is_of_kind k [] ≡ false) [ Name ↦ refl | Number ↦ refl | Negative ↦ refl | Mark ↦ refl | Eol ↦ refl | Bad ↦ refl ]

token_first : (kind : Kind) (word rest : List ℕ) → is_of_kind kind word ≡ true → first_is is_skipped (word ++ rest) ≡ false
token_first kind [] rest h = absurd (both_ways _ (nothing_is_no_token kind) h)
token_first kind (byte ∷ []) rest h =
    false_from_ne_true (is_skipped byte) (λ skipped. both_ways _ (skipped_is_no_token kind byte skipped) h)
token_first kind (byte ∷ second ∷ word) rest h = long_first byte (second ∷ word) (token_is_long kind byte second word h)

-- of two words at one place, one goes on where the other ends
record IsLonger (word rest other other_rest : List ℕ) : Type 0 where
  more : List ℕ
  longer : other ≡ word ++ more
  left : rest ≡ more ++ other_rest

one_is_longer : (word rest other other_rest : List ℕ) → word ++ rest ≡ other ++ other_rest
    → IsLonger word rest other other_rest ⊎ IsLonger other other_rest word rest
one_is_longer [] rest other other_rest whole = inl (record { more = other; longer = refl; left = whole })
one_is_longer (byte ∷ word) rest [] other_rest whole = inr (record { more = byte ∷ word; longer = refl; left = sym whole })
one_is_longer (byte ∷ word) rest (same ∷ other) other_rest whole =
    let head : byte ≡ same = cc in
    let tail : word ++ rest ≡ other ++ other_rest = cc in
    elim (one_is_longer word rest other other_rest tail) [
      | inl l ↦ let whole_word = l.longer in inl (record { more = l.more; longer = cc; left = l.left })
      | inr l ↦ let whole_word = l.longer in inr (record { more = l.more; longer = cc; left = l.left })
    ]

-- two words at one place that are each as long as can be are the same
longest_is_longest : (word rest other other_rest : List ℕ) (kind : Kind) → IsLongest word rest
    → is_of_kind kind other ≡ true → IsLonger word rest other other_rest → (word ≡ other) × (rest ≡ other_rest)
longest_is_longest word rest other other_rest kind longest h l =
    let none : l.more ≡ [] = longest kind l.more other_rest l.left (rw l.longer at h) in
    (sym (rw none at l.longer ∙ append-nil word), rw none at l.left)

word_is_one : (word rest other other_rest : List ℕ) (kind other_kind : Kind) → is_of_kind kind word ≡ true
    → is_of_kind other_kind other ≡ true → IsLongest word rest → IsLongest other other_rest
    → word ++ rest ≡ other ++ other_rest → (word ≡ other) × (rest ≡ other_rest)
word_is_one word rest other other_rest kind other_kind h k longest other_longest whole =
    elim (one_is_longer word rest other other_rest whole) [
      | inl l ↦ longest_is_longest word rest other other_rest other_kind longest k l
      | inr l ↦ let same = longest_is_longest other other_rest word rest kind other_longest h l in (sym same.0, sym same.1)
    ]

-- what follows in a text is one list
token_is_one : (one two : Token) → one.line ≡ two.line → one.start ≡ two.start → one.end ≡ two.end → one.kind ≡ two.kind → one ≡ two
token_is_one one two line start end kind =
    let same : one ≡ record { line = two.line; start = two.start; end = two.end; kind = two.kind } =
    rw (← line, ← start, ← end, ← kind) refl in same

nothing_joined : (word rest : List ℕ) → [] ≡ word ++ rest → word ≡ []
nothing_joined [] rest h = refl
nothing_joined (byte ∷ word) rest h = cc

nothing_follows : (before left : List ℕ) (token : Token) (tokens : List Token) → Follow before left []
    → Follow before left (token ∷ tokens) → ⊥
nothing_follows before left token tokens gap (next, more) =
    let first = token_first token.kind next.word next.rest next.is_token.kind in
    let same = gap_is_one left next.gap [] (next.word ++ next.rest) gap next.between refl first (append-nil left ∙ next.whole) in
    both_ways _ (nothing_is_no_token token.kind) (rw (nothing_joined next.word next.rest same.1) at next.is_token.kind)

next_is_one : (before left : List ℕ) (one two : Token) (first : IsNext before left one) (second : IsNext before left two)
    → (first.gap ≡ second.gap) × (first.word ≡ second.word) × (first.rest ≡ second.rest)
next_is_one before left one two first second =
    let gaps = gap_is_one first.gap second.gap (first.word ++ first.rest) (second.word ++ second.rest) first.between second.between
    (token_first one.kind first.word first.rest first.is_token.kind)
    (token_first two.kind second.word second.rest second.is_token.kind)
    (sym first.whole ∙ second.whole) in
    let words = word_is_one first.word first.rest second.word second.rest one.kind two.kind first.is_token.kind second.is_token.kind first.is_token.longest second.is_token.longest gaps.1 in
    (gaps.0, words.0, words.1)

same_token : (before left : List ℕ) (one two : Token) (first : IsNext before left one) (second : IsNext before left two) → one ≡ two
same_token before left one two first second =
    let same = next_is_one before left one two first second in
    let a = first.is_token in
    let b = second.is_token in
    let gap = same.0 in
    let word = same.1 in
    token_is_one one two
    (a.line ∙ rw gap (sym b.line))
    (a.start ∙ rw gap (sym b.start))
    (a.end ∙ rw (gap, word) (sym b.end))
    (one_kind one.kind two.kind first.word a.kind (rw word b.kind))

Follow-one : (one two : List Token) (before left : List ℕ) → Follow before left one → Follow before left two → one ≡ two
Follow-one [] [] before left f g = refl
Follow-one [] (token ∷ tokens) before left f g = absurd (nothing_follows before left token tokens f g)
Follow-one (token ∷ tokens) [] before left f g = absurd (nothing_follows before left token tokens g f)
Follow-one (token ∷ tokens) (other ∷ others) before left (first, f) (second, g) =
    let same = next_is_one before left token other first second in
    let head = same_token before left token other first second in
    let read : before ++ (second.gap ++ second.word) ≡ before ++ (first.gap ++ first.word) = rw (same.0, same.1) refl in
    let more : Follow (before ++ (first.gap ++ first.word)) first.rest others =
    rw (read, ← same.2) at g in
    let tail = Follow-one tokens others (before ++ (first.gap ++ first.word)) first.rest f more in
    cc

pub Covers-one : (text : List ℕ) (tokens : List Token) → Covers text tokens → tokens ≡ tokens_of text
Covers-one text tokens c =
    let d = tokens_of-covers text in
    let same = Follow-one c.bodies d.bodies [] text c.follow d.follow in
    c.all ∙ rw same (sym d.all)
