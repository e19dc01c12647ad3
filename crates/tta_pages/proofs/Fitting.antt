-- What there is room for: how long it is, and how it grows.
use Rattle.std.proofs.Common.{◌≡◌, ◌≤◌, ◌<◌, ◌+◌, ◌-◌, ℕ, Bool, true, false, List, [], ◌∷◌, ◌++◌, length, drop, get_or, refl, sym, ap, ◌∙◌, append-nil, arith}
use Rattle.std.specs.Prelude.{nat_lt, if◌then◌else◌, map}
use Rattle.std.specs.List.{enumerate_from}
use Rattle.std.proofs.lemmas.Bool.{ltb-false}
use Rattle.std.proofs.lemmas.List.{length-append, append_assoc, drop_more}
use Rattle.tta_pages.specs.Room.{within, fitting}

-- a text for which there is room
pub length-within : (room : ℕ) (text : List ℕ) → length (within room text) ≤ room
length-within room text = by (nat_lt room (length text)) refl where
  by : (b : Bool) → nat_lt room (length text) ≡ b → length (if b then [] else text) ≤ room
  by true is = omega arith
  by false is = ltb-false room (length text) is

-- texts for which there is room
pub length-fitting : (room : ℕ) (ts : List (List ℕ)) → length (fitting room ts) ≤ room
length-fitting room [] = omega arith
length-fitting room (t ∷ ts) = by (nat_lt room (length t)) refl (length-fitting (room - length t) ts) where
  by : (b : Bool) → nat_lt room (length t) ≡ b → length (fitting (room - length t) ts) ≤ room - length t
      → length (if b then [] else t ++ fitting (room - length t) ts) ≤ room
  by true is rest = omega arith
  by false is rest =
      let small : length t ≤ room = ltb-false room (length t) is in
      rw length-append (omega arith)

-- ---- texts of items, as many as there is room for

enumerate_more : {X : Type 0} (xs : List X) (i : ℕ) (x : X) → i < length xs → x ≡ get_or xs i x
    → enumerate_from i (drop i xs) ≡ (i, x) ∷ enumerate_from (i + 1) (drop (i + 1) xs)
enumerate_more xs i x h is =
    ap (λ l. enumerate_from i l) (drop_more xs i x h) ∙ ap (λ y. (i, y) ∷ enumerate_from (i + 1) (drop (i + 1) xs)) (sym is)

module _ {X : Type 0} (text : ℕ × X → List ℕ) where
  -- one more was put
  pub fitting_more : (room more : ℕ) (old new all : List ℕ) (xs : List X) (i : ℕ) (x : X) → i < length xs → x ≡ get_or xs i x
      → nat_lt room (length (text (i, x))) ≡ false → new ≡ old ++ text (i, x) → more ≡ room - length (text (i, x))
      → old ++ fitting room (map text (enumerate_from i (drop i xs))) ≡ all → new ++ fitting more (map text (enumerate_from (i + 1) (drop (i + 1) xs))) ≡ all
  fitting_more room more old new all xs i x h is fits put much was =
      let rest = map text (enumerate_from (i + 1) (drop (i + 1) xs)) in
      let one : fitting room (map text (enumerate_from i (drop i xs))) ≡ text (i, x) ++ fitting more rest =
      ap (λ l. fitting room (map text l)) (enumerate_more xs i x h is)
      ∙ ap (λ (b : Bool). if b then [] else text (i, x) ++ fitting (room - length (text (i, x))) rest) fits
      ∙ ap (λ n. text (i, x) ++ fitting n rest) (sym much) in
      ap (λ l. l ++ fitting more rest) put ∙ append_assoc old (text (i, x)) (fitting more rest) ∙ sym (ap (λ l. old ++ l) one) ∙ was

  -- there is no room for the next
  pub fitting_full : (room : ℕ) (old new all : List ℕ) (xs : List X) (i : ℕ) (x : X) → i < length xs → x ≡ get_or xs i x
      → nat_lt room (length (text (i, x))) ≡ true → new ≡ old
      → old ++ fitting room (map text (enumerate_from i (drop i xs))) ≡ all → new ≡ all
  fitting_full room old new all xs i x h is full put was =
      let rest = map text (enumerate_from (i + 1) (drop (i + 1) xs)) in
      let none : fitting room (map text (enumerate_from i (drop i xs))) ≡ [] =
      ap (λ l. fitting room (map text l)) (enumerate_more xs i x h is)
      ∙ ap (λ (b : Bool). if b then [] else text (i, x) ++ fitting (room - length (text (i, x))) rest) full in
      put ∙ sym (append-nil old) ∙ ap (λ l. old ++ l) (sym none) ∙ was
