-- Lists in which no two elements are one.
use Rattle.std.proofs.Common.{◌≡◌, ℕ, zero, suc, ◌+◌, ◌<◌, ◌≤◌, Bool, true, false, not, ◌&&◌, List, [], ◌∷◌, ◌++◌, map, refl, sym, ap, ◌∙◌, arith}
use Rattle.std.specs.Prelude.{nat_le, ⊤}
use Rattle.std.specs.List.{list_any, flat_map, enumerate_from, range_with_len, AllByRecursion}
use Rattle.std.proofs.lemmas.Bool.{and_parts, and_from, or_from, leb-true, le-leb}
use Rattle.tta_hardware.specs.Cited.{TellsApart}
use Rattle.tta_circuit.specs.Closed.{are_apart}
use Rattle.tta_hardware.proofs.WiresFit.{both_lists}
use Rattle.tta_hardware.proofs.RegistersFit.{weaker}

-- no two elements are one
abbrev pub Apart : {A : Type 0} → List A → Type 0
Apart [] = ⊤
Apart (x ∷ xs) = AllByRecursion (λ y. x ≡ y → ⊥) xs × Apart xs

-- a list before another, where a number tells all elements of the first from those of the second
pub split : {A : Type 0} (g : A → ℕ) (a : ℕ) (xs ys : List A) → AllByRecursion (λ x. g x ≤ a) xs → AllByRecursion (λ y. a < g y) ys
    → Apart xs → Apart ys → Apart (xs ++ ys)
split g a [] ys low high first second = second
split g a (x ∷ xs) ys low high first second = (
  both_lists (λ y. x ≡ y → ⊥) xs ys first.0
      (weaker (λ y. a < g y) (λ y. x ≡ y → ⊥) ys (λ y less e. let same = ap g e in omega (arith, low.0, less, same)) high),
  split g a xs ys low.1 high first.1 second,
)

-- ---- lists that rise

-- a number rises from element to element, from a least one on
abbrev pub rises : {A : Type 0} → (g : A → ℕ) → (least : ℕ) → List A → Bool
rises g least [] = true
rises g least (x ∷ xs) = nat_le least (g x) && rises g (g x + 1) xs

pub all_from_least : {A : Type 0} (g : A → ℕ) (least : ℕ) (xs : List A) → rises g least xs ≡ true → AllByRecursion (λ x. least ≤ g x) xs
all_from_least g least [] up = tt
all_from_least g least (x ∷ xs) up =
    let p = and_parts (nat_le least (g x)) (rises g (g x + 1) xs) up in
    let here = leb-true least (g x) p.0 in
    (here, weaker (λ y. g x + 1 ≤ g y) (λ y. least ≤ g y) xs (λ y more. omega (arith, here, more)) (all_from_least g (g x + 1) xs p.1))

pub risen : {A : Type 0} (g : A → ℕ) (least : ℕ) (xs : List A) → rises g least xs ≡ true → Apart xs
risen g least [] up = tt
risen g least (x ∷ xs) up =
    let p = and_parts (nat_le least (g x)) (rises g (g x + 1) xs) up in (
      weaker (λ y. g x + 1 ≤ g y) (λ y. x ≡ y → ⊥) xs (λ y more e. let same = ap g e in omega (arith, more, same))
          (all_from_least g (g x + 1) xs p.1),
      risen g (g x + 1) xs p.1,
    )

pub numbers_rise : (a n : ℕ) → rises (λ (i : ℕ). i) a (range_with_len a n) ≡ true
numbers_rise a zero = refl
numbers_rise a (suc n) = and_from (nat_le a a) (rises (λ (i : ℕ). i) (a + 1) (range_with_len (a + 1) n)) (le-leb a a (omega arith))
    (numbers_rise (a + 1) n)

pub enumerated_rise : {A : Type 0} (j : ℕ) (xs : List A) → rises (λ (t : ℕ × A). t.0) j (enumerate_from j xs) ≡ true
enumerated_rise {A = A} j [] = refl
enumerated_rise {A = A} j (x ∷ xs) =
    and_from (nat_le j j) (rises (λ (t : ℕ × A). t.0) (j + 1) (enumerate_from (j + 1) xs)) (le-leb j j (omega arith))
    (enumerated_rise (j + 1) xs)

-- what is made of the elements of a list that rises, each of another owner
pub pieces : {A B : Type 0} (key : A → ℕ) (owner : B → ℕ) (f : A → List B) (least : ℕ) (xs : List A) → rises key least xs ≡ true
    → ((x : A) → AllByRecursion (λ y. owner y ≡ key x) (f x)) → ((x : A) → Apart (f x)) → Apart (flat_map f xs)
pieces key owner f least [] up owned each = tt
pieces key owner f least (x ∷ xs) up owned each =
    let p = and_parts (nat_le least (key x)) (rises key (key x + 1) xs) up in
    split owner (key x) (f x) (flat_map f xs)
    (weaker (λ y. owner y ≡ key x) (λ y. owner y ≤ key x) (f x) (λ y same. omega (arith, same)) (owned x))
    (later key owner f (key x) xs (all_from_least key (key x + 1) xs p.1) owned) (each x) (pieces key owner f (key x + 1) xs p.1 owned each)
  where
    later : {A B : Type 0} (key : A → ℕ) (owner : B → ℕ) (f : A → List B) (k : ℕ) (xs : List A) → AllByRecursion (λ x. k + 1 ≤ key x) xs
        → ((x : A) → AllByRecursion (λ y. owner y ≡ key x) (f x)) → AllByRecursion (λ y. k < owner y) (flat_map f xs)
    later key owner f k [] all owned = tt
    later key owner f k (x ∷ xs) all owned =
        both_lists (λ y. k < owner y) (f x) (flat_map f xs)
        (weaker (λ y. owner y ≡ key x) (λ y. k < owner y) (f x) (λ y same. omega (arith, same, all.0)) (owned x))
        (later key owner f k xs all.1 owned)

-- what a map makes that can be undone
pub mapped : {A B : Type 0} (f : A → B) (back : B → A) → ((x : A) → back (f x) ≡ x) → (xs : List A) → Apart xs → Apart (map f xs)
mapped f back undone [] apart = tt
mapped f back undone (x ∷ xs) apart = (
  others f back undone x xs apart.0,
  mapped f back undone xs apart.1,
) where
  others : {A B : Type 0} (f : A → B) (back : B → A) → ((x : A) → back (f x) ≡ x) → (x : A) (xs : List A)
      → AllByRecursion (λ y. x ≡ y → ⊥) xs
      → AllByRecursion (λ y. f x ≡ y → ⊥) (map f xs)
  others f back undone x [] apart = tt
  others f back undone x (y ∷ xs) apart =
      (λ e. apart.0 (sym (undone x) ∙ ap back e ∙ undone y), others f back undone x xs apart.1)

-- ---- as a test

none_is : {N : Type 0} (same : N → N → Bool) → TellsApart same → (x : N) (xs : List N) → AllByRecursion (λ y. x ≡ y → ⊥) xs
    → list_any (same x) xs ≡ false
none_is same tells x [] apart = refl
none_is same tells x (y ∷ xs) apart = or_from (same x y) (list_any (same x) xs) (by (same x y) refl) (none_is same tells x xs apart.1) where
  by : (b : Bool) → same x y ≡ b → same x y ≡ false
  by true is = absurd (apart.0 (tells.is x y is))
  by false is = is

pub tested : {N : Type 0} (same : N → N → Bool) → TellsApart same → (xs : List N) → Apart xs → are_apart same xs ≡ true
tested same tells [] apart = refl
tested same tells (x ∷ xs) apart =
    and_from (not (list_any (same x) xs)) (are_apart same xs) (ap not (none_is same tells x xs apart.0)) (tested same tells xs apart.1)
