-- Names that stand twice, found from the left to the right.
use Rattle.std.proofs.Common.{◌≡◌, ℕ, ◌+◌, ◌<◌, length, get_or, drop, Bool, true, false, List, [], ◌∷◌, ◌++◌, Some, None, refl, ap, ◌∙◌, sym, append_assoc, length-append}
use Rattle.std.specs.Prelude.{◌||◌, is_some, if◌then◌else◌}
use Rattle.std.specs.List.{list_any}
use Rattle.std.specs.Str.{bytes_eq}
use Rattle.std.proofs.lemmas.List.{at_drop_more}
use Rattle.std.specs.Cmp.Lexicographic.{nat_list_eq_equiv}
use Rattle.tta_list.proofs.Tests.{or_swap}
use Rattle.tta_tac.specs.Cited.{Declared, named_in, texts}
use Rattle.tta_parse.specs.declared.word.Word.{Word}
use Rattle.tta_tac.specs.FirstPass.{has_twice, numbered}

or_shuffle : (a b c d : Bool) → ((a || b) || (c || d)) ≡ (a || ((b || c) || d))
or_shuffle true b c d = refl
or_shuffle false true c d = refl
or_shuffle false false c d = refl

first_false : (a b c : Bool) → ((a || b) || c) ≡ false → a ≡ false
first_false true b c e = e
first_false false b c e = refl

module _ {P : Type 0} where
  -- whether one of the names was declared before, or stands twice
  abbrev pub is_twice_after : Declared P → List (List ℕ) → Bool
  is_twice_after ds names = list_any (λ m. is_some (named_in ds m)) names || has_twice names

  pub declared-more : (ds : Declared P) (name : List ℕ) (place : P) (m : List ℕ)
      → is_some (named_in (ds ++ (name, place) ∷ []) m) ≡ (is_some (named_in ds m) || bytes_eq m name)
  declared-more [] name place m = by (bytes_eq name m) ∙ nat_list_eq_equiv.symm name m where
    by : (b : Bool) → is_some (if b then Some place else None) ≡ b
    by true = refl
    by false = refl
  declared-more (d ∷ ds) name place m = by (bytes_eq d.0 m) (declared-more ds name place m) where
    by : (b : Bool) → is_some (named_in (ds ++ (name, place) ∷ []) m) ≡ (is_some (named_in ds m) || bytes_eq m name)
        → is_some (if b then Some d.1 else named_in (ds ++ (name, place) ∷ []) m)
        ≡ (is_some (if b then Some d.1 else named_in ds m) || bytes_eq m name)
    by true rest = refl
    by false rest = rest

  any_declared-more : (ds : Declared P) (name : List ℕ) (place : P) (names : List (List ℕ))
      → list_any (λ m. is_some (named_in (ds ++ (name, place) ∷ []) m)) names
      ≡ (list_any (λ m. is_some (named_in ds m)) names || list_any (λ m. bytes_eq m name) names)
  any_declared-more ds name place [] = refl
  any_declared-more ds name place (m ∷ names) =
      ap (λ b. b || list_any (λ m. is_some (named_in (ds ++ (name, place) ∷ []) m)) names) (declared-more ds name place m)
      ∙ ap (λ b. (is_some (named_in ds m) || bytes_eq m name) || b) (any_declared-more ds name place names)
      ∙ or_swap (is_some (named_in ds m)) (bytes_eq m name)
      (list_any (λ m. is_some (named_in ds m)) names) (list_any (λ m. bytes_eq m name) names)

  -- the next name is declared after the test
  pub is_twice_more : (ds : Declared P) (name : List ℕ) (place : P) (names : List (List ℕ))
      → is_twice_after ds (name ∷ names) ≡ (is_some (named_in ds name) || is_twice_after (ds ++ (name, place) ∷ []) names)
  is_twice_more ds name place names =
      or_shuffle (is_some (named_in ds name)) (list_any (λ m. is_some (named_in ds m)) names)
      (list_any (λ m. bytes_eq m name) names) (has_twice names)
      ∙ ap (λ b. is_some (named_in ds name) || (b || has_twice names)) (sym (any_declared-more ds name place names))

  -- the same among words, of which the first i have been looked at
  pub is_twice_step : (ds new : Declared P) (place : P) (words : List Word) (i : ℕ) (d : Word) → i < length words
      → new ≡ ds ++ ((get_or words i d).text.now, place) ∷ [] → is_some (named_in ds (get_or words i d).text.now) ≡ false
      → is_twice_after new (texts (drop (i + 1) words)) ≡ is_twice_after ds (texts (drop i words))
  is_twice_step ds new place words i d below e fresh =
      let name = (get_or words i d).text.now in
      let names = texts (drop (i + 1) words) in
      ap (λ (now : Declared P). is_twice_after now names) e
      ∙ sym (
      at_drop_more (λ ws. is_twice_after ds (texts ws)) words i d below
      ∙ is_twice_more ds name place names
      ∙ ap (λ b. b || is_twice_after (ds ++ (name, place) ∷ []) names) fresh)

  -- where no name stands twice, the next one was not declared
  pub is_twice_fresh : (ds : Declared P) (words : List Word) (i : ℕ) (d : Word) → i < length words
      → is_twice_after ds (texts (drop i words)) ≡ false → is_some (named_in ds (get_or words i d).text.now) ≡ false
  is_twice_fresh ds words i d below once =
      first_false _ _ _ (sym (at_drop_more (λ ws. is_twice_after ds (texts ws)) words i d below) ∙ once)

-- where nothing was declared before
pub is_twice_none : (P : Type 0) (names : List (List ℕ)) → is_twice_after {P = P} [] names ≡ has_twice names
is_twice_none P names = ap (λ b. b || has_twice names) (none names) where
  none : (names : List (List ℕ)) → list_any (λ m. is_some (named_in {P = P} [] m)) names ≡ false
  none [] = refl
  none (m ∷ names) = none names

-- variables that are numbered in turn
pub numbered_step : (vars new : Declared ℕ) (words : List Word) (i : ℕ) (d : Word) → i < length words
    → new ≡ vars ++ ((get_or words i d).text.now, length vars) ∷ []
    → new ++ numbered (length new) (texts (drop (i + 1) words)) ≡ vars ++ numbered (length vars) (texts (drop i words))
numbered_step vars new words i d below e =
    let name = (get_or words i d).text.now in
    let names = texts (drop (i + 1) words) in
    let more = at_drop_more (λ ws. vars ++ numbered (length vars) (texts ws)) words i d below in
    let size : length new ≡ length vars + 1 = ap length e ∙ length-append vars ((name, length vars) ∷ []) in
    rw (size, e) (append_assoc vars ((name, length vars) ∷ []) (numbered (length vars + 1) names) ∙ sym more)
