-- No part of a text that is longer than what the scanner takes is a token.
use Rattle.std.proofs.Common.{◌≡◌, ℕ, Bool, true, false, ◌==◌, ◌&&◌, ◌||◌, List, [], ◌∷◌, ◌++◌, length, length-append, refl, sym, ◌∙◌, ap, arith}
use Rattle.std.specs.Prelude.{nat_eq, codes}
use Rattle.std.specs.List.{list_all, starts_with}
use Rattle.std.specs.Char.{is_ascii_digit}
use Rattle.std.proofs.lemmas.Bool.{and_parts, both_ways, false≢true}
use Rattle.tta_text.specs.declared.lexeme.Kind.{Kind}
use Rattle.tta_text.specs.Words.{first_is, is_letter, is_run, is_of_kind}
use Rattle.tta_text.specs.Bytes.{is_word_byte}
use Rattle.tta_text.proofs.Shapes.{IsLong, run, minus, arrow, dots, token_is_long}

-- no longer part of a text is a token, where this word stands at its start and the rest comes then
abbrev pub IsLongest : (word rest : List ℕ) → Type 0
IsLongest word rest =
    (kind : Kind) (more after : List ℕ) → rest ≡ more ++ after → is_of_kind kind (word ++ more) ≡ true → more ≡ []

longer_is_long : (kind : Kind) (byte : ℕ) (others : List ℕ) (next : ℕ) (more : List ℕ)
    → is_of_kind kind (byte ∷ (others ++ next ∷ more)) ≡ true → IsLong byte (others ++ next ∷ more)
longer_is_long kind byte [] next more h = token_is_long kind byte next more h
longer_is_long kind byte (second ∷ others) next more h = token_is_long kind byte second (others ++ next ∷ more) h

list_all-right : (p : ℕ → Bool) (xs ys : List ℕ) → list_all p (xs ++ ys) ≡ true → list_all p ys ≡ true
list_all-right p [] ys h = h
list_all-right p (x ∷ xs) ys h = list_all-right p xs ys (and_parts (p x) (list_all p (xs ++ ys)) h).1

-- a run ends where a byte stands that no run has
run_stops : (others : List ℕ) (next : ℕ) (more : List ℕ) → is_run (others ++ next ∷ more) ≡ true
    → is_word_byte next ≡ false → ⊥
run_stops others next more h stop =
    both_ways _ stop (and_parts (is_word_byte next) (is_run more) (list_all-right is_word_byte others (next ∷ more) h)).0

-- a run with all that goes on with it is as long as can be
pub run_is_longest : (byte : ℕ) (others after : List ℕ) → (is_letter byte || is_ascii_digit byte) ≡ true
    → first_is is_word_byte after ≡ false → IsLongest (byte ∷ others) after
run_is_longest byte others after first stops kind [] tail e h = refl
run_is_longest byte others after first stops kind (next ∷ more) tail e h =
    let stop : is_word_byte next ≡ false = rw e at stops in
    elim (longer_is_long kind byte others next more h) [
      | run _ all ↦ absurd (run_stops others next more all stop)
      | minus sign _ _ ↦ absurd (false≢true (rw sign at first))
      | arrow sign _ ↦ absurd (false≢true (rw sign at first))
      | dots dot _ ↦ absurd (false≢true (rw dot at first))
    ]

-- and so it is after "-", where it begins with a digit
pub negative_is_longest : (others after : List ℕ) → first_is is_ascii_digit others ≡ true
    → first_is is_word_byte after ≡ false → IsLongest (45 ∷ others) after
negative_is_longest others after digit stops kind [] tail e h = refl
negative_is_longest [] after digit stops kind (next ∷ more) tail e h = absurd (false≢true digit)
negative_is_longest (second ∷ others) after digit stops kind (next ∷ more) tail e h =
    let stop : is_word_byte next ≡ false = rw e at stops in
    elim (longer_is_long kind 45 (second ∷ others) next more h) [
      | run letter _ ↦ absurd (false≢true letter)
      | minus _ _ all ↦ absurd (run_stops (second ∷ others) next more all stop)
      | arrow _ alone ↦ let same = ap length alone in absurd (omega (arith, length-append others (next ∷ more)))
      | dots dot _ ↦ absurd (omega arith)
    ]

-- a byte that begins no longer token
pub single_is_longest : (byte : ℕ) (rest : List ℕ) → (is_letter byte || is_ascii_digit byte) ≡ false
    → (byte == 45 && first_is is_ascii_digit rest) ≡ false
    → starts_with nat_eq (byte ∷ rest) (codes "->") ≡ false
    → starts_with nat_eq (byte ∷ rest) (codes "...") ≡ false
    → IsLongest (byte ∷ []) rest
single_is_longest byte rest first no_digit no_arrow no_dots kind [] tail e h = refl
single_is_longest byte rest first no_digit no_arrow no_dots kind (next ∷ more) tail e h =
    elim (token_is_long kind byte next more h) [
      | run letter _ ↦ absurd (both_ways _ first letter)
      | minus sign digit _ ↦ absurd (both_ways _ (rw (e, sign) at no_digit) digit)
      | arrow sign alone ↦ let whole = e ∙ ap (λ t. t ++ tail) alone in absurd (false≢true (sym (rw (whole, sign) at no_arrow)))
      | dots dot alone ↦ let whole = e ∙ ap (λ t. t ++ tail) alone in absurd (false≢true (sym (rw (whole, dot) at no_dots)))
    ]

pub arrow_is_longest : (rest : List ℕ) → IsLongest (codes "->") rest
arrow_is_longest rest kind [] tail e h = refl
arrow_is_longest rest kind (next ∷ more) tail e h =
    elim (token_is_long kind 45 62 (next ∷ more) h) [
      | run letter _ ↦ absurd (false≢true letter)
      | minus _ digit _ ↦ absurd (false≢true digit)
      | arrow _ alone ↦ cc
      | dots dot _ ↦ absurd (omega arith)
    ]

pub dots_are_longest : (rest : List ℕ) → IsLongest (codes "...") rest
dots_are_longest rest kind [] tail e h = refl
dots_are_longest rest kind (next ∷ more) tail e h =
    elim (token_is_long kind 46 46 (46 ∷ next ∷ more) h) [
      | run letter _ ↦ absurd (false≢true letter)
      | minus sign _ _ ↦ absurd (omega arith)
      | arrow sign _ ↦ absurd (omega arith)
      | dots _ alone ↦ cc
    ]
