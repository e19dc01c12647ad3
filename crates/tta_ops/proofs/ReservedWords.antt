-- A name is reserved only where it is one of the reserved words of its length.
use Rattle.std.proofs.Common.{◌≡◌, ◌≢◌, ℕ, suc, false, List, [], ◌∷◌, length, refl, ap, sym, ◌∙◌, inl, inr, eqb}
use Rattle.std.specs.Prelude.{codes, filter}
use Rattle.std.specs.Str.{bytes_eq}
use Rattle.std.specs.List.{list_any}
use Rattle.std.proofs.lemmas.Bool.{and_right, cases_Bool, eqb-false, ne_eqb}
use Rattle.std.proofs.Math.Bool.{or-false}
use Rattle.tta_ops.specs.Reserved.{is_reserved, reserved_words}

-- bytes of another length differ
other_length : (a b : List ℕ) → (length a ≡ length b → ⊥) → bytes_eq a b ≡ false
other_length [] [] differ = absurd (differ refl)
other_length [] (y ∷ b) differ = refl
other_length (x ∷ a) [] differ = refl
other_length (x ∷ a) (y ∷ b) differ = and_right (eqb x y) (bytes_eq a b) (other_length a b (λ e. differ (ap suc e)))

-- only words of its own length can be a name
of_its_length : (name : List ℕ) (words : List (List ℕ))
    → list_any (bytes_eq name) words
    ≡ list_any (bytes_eq name) (filter (λ word. eqb (length word) (length name)) words)
of_its_length name [] = refl
of_its_length name (word ∷ words) =
    elim (cases_Bool (eqb (length word) (length name))) [
      | inl same ↦ rw (same, of_its_length name words) refl
      | inr other ↦ rw (other, other_length name word (λ e. eqb-false (length word) (length name) other (sym e)), of_its_length name words) refl
    ]

-- the reserved words of a length
abbrev words_of : ℕ → List (List ℕ)
words_of size = filter (λ word. eqb (length word) size) reserved_words

-- a name is looked for among the words of its length alone
by_length : (name : List ℕ) (size : ℕ) → length name ≡ size
    → is_reserved name ≡ list_any (bytes_eq name) (words_of size)
unfolding is_reserved
by_length name size len = of_its_length name reserved_words ∙ rw len refl

-- there is one word of five bytes, and one of six
pub of_five : (name : List ℕ) → length name ≡ 5 → is_reserved name ≡ bytes_eq name (codes "store")
of_five name len = by_length name 5 len ∙ or-false (bytes_eq name (codes "store"))

pub of_six : (name : List ℕ) → length name ≡ 6 → is_reserved name ≡ bytes_eq name (codes "return")
of_six name len = by_length name 6 len ∙ or-false (bytes_eq name (codes "return"))

pub of_two : (name : List ℕ) → length name ≡ 2
    → is_reserved name ≡ list_any (bytes_eq name) (codes "if" ∷ codes "in" ∷ [])
of_two name len = by_length name 2 len

pub of_three : (name : List ℕ) → length name ≡ 3
    → is_reserved name
    ≡ list_any (bytes_eq name)
    (codes "ldw" ∷ codes "stw" ∷ codes "ldf" ∷ codes "stf" ∷ codes "end" ∷ codes "out" ∷ [])
of_three name len = by_length name 3 len

pub of_four : (name : List ℕ) → length name ≡ 4
    → is_reserved name
    ≡ list_any (bytes_eq name)
    (codes "jump" ∷ codes "proc" ∷ codes "goto" ∷ codes "when" ∷ codes "data" ∷ codes "load" ∷ codes "call" ∷ codes "halt" ∷ [])
of_four name len = by_length name 4 len

pub of_other : (name : List ℕ)
    → length name ≢ 2 → length name ≢ 3 → length name ≢ 4 → length name ≢ 5 → length name ≢ 6
    → is_reserved name ≡ false
of_other name two three four five six = by_length name (length name) refl ∙ none (length name) two three four five six where
  none : (n : ℕ) → n ≢ 2 → n ≢ 3 → n ≢ 4 → n ≢ 5 → n ≢ 6 → list_any (bytes_eq name) (words_of n) ≡ false
  none n two three four five six =
      rw (
        ne_eqb 2 n (λ e. two (sym e)),
        ne_eqb 3 n (λ e. three (sym e)),
        ne_eqb 4 n (λ e. four (sym e)),
        ne_eqb 5 n (λ e. five (sym e)),
        ne_eqb 6 n (λ e. six (sym e)),
      ) refl

-- what a name of each length is tested against
pub ruleset of_lengths = (of_five, of_six, of_other)
