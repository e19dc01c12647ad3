-- Choices, and what moves bring.
use Rattle.std.proofs.Common.{◌≡◌, ◌++◌, ◌∷◌, ℕ, List, [], Bool, true, false, map, length, refl, ap, sym, ◌∙◌, append_assoc}
use Rattle.std.specs.Prelude.{filter, if◌then◌else◌}
use Rattle.std.specs.List.{flat_map}
use Rattle.std.proofs.lemmas.List.Concat.{flat_map-cons}
use Rattle.tta_rtl.specs.Cited.{Dest, numbers, is_dest_on, Machine, Signal, Expression, Word, hits, arrivals, first_of, choice, text_of}
use Rattle.tta_rtl.specs.Texts.{arrival, choice_start, choices}

choice_joined : (test on off : List ℕ) → choice test on off ≡ choice_start test on ++ off
unfolding choice choice_start
choice_joined test on off = simp append_assoc

-- the text of a chain of choices
pub text_first : (m : Machine) (xs : List (Expression × Expression)) (other : Expression)
    → text_of m (first_of xs other) ≡ choices m xs ++ text_of m other
text_first m [] other = refl
text_first m (x ∷ xs) other =
    choice_joined (text_of m x.0) (text_of m x.1) (text_of m (first_of xs other))
    ∙ ap (λ (r : List ℕ). choice_start (text_of m x.0) (text_of m x.1) ++ r) (text_first m xs other)
    ∙ sym (append_assoc (choice_start (text_of m x.0) (text_of m x.1)) (choices m xs) (text_of m other))

-- choices and more choices
pub choices-append : (m : Machine) (xs ys : List (Expression × Expression)) → choices m (xs ++ ys) ≡ choices m xs ++ choices m ys
choices-append m [] ys = refl
choices-append m (x ∷ xs) ys =
    ap (λ (r : List ℕ). choice_start (text_of m x.0) (text_of m x.1) ++ r) (choices-append m xs ys)
    ∙ sym (append_assoc (choice_start (text_of m x.0) (text_of m x.1)) (choices m xs) (choices m ys))

-- choices over the elements that pass a test, one element after another
pub choices_passed : {A : Type 0} (m : Machine) (passes : A → Bool) (test on : A → Expression) (xs : List A)
    → choices m (map (λ x. (test x, on x)) (filter passes xs))
    ≡ flat_map (λ x. if passes x then choice_start (text_of m (test x)) (text_of m (on x)) else []) xs
choices_passed m passes test on [] = refl
choices_passed m passes test on (x ∷ xs) = rw flat_map-cons (by (passes x) refl (choices_passed m passes test on xs)) where
  first : List ℕ
  first = choice_start (text_of m (test x)) (text_of m (on x))

  rest : List ℕ
  rest = flat_map (λ x. if passes x then choice_start (text_of m (test x)) (text_of m (on x)) else []) xs

  by : (b : Bool) → passes x ≡ b → choices m (map (λ x. (test x, on x)) (filter passes xs)) ≡ rest
      → choices m (map (λ x. (test x, on x)) (filter passes (x ∷ xs))) ≡ (if passes x then first else []) ++ rest
  by true is more = rw is (ap (λ (r : List ℕ). first ++ r) more)
  by false is more = rw is more

-- what all buses bring
pub arrivals_text : (m : Machine) (dst : Dest) → choices m (arrivals m dst) ≡ flat_map (arrival m dst) (numbers (length m.buses))
unfolding arrival
arrivals_text m dst = choices_passed m (λ b. is_dest_on m b dst) (hits m dst) (λ b. Signal (Word b)) (numbers (length m.buses))
