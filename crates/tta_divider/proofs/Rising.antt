-- Lists whose elements have places that rise: no two are one, and each is found by its name.
use Rattle.std.proofs.Common.{◌≡◌, ℕ, ◌<◌, ◌≤◌, ◌+◌, Bool, true, false, not, List, [], ◌∷◌, ◌++◌, map, Some, refl, sym, ap, ◌∙◌, arith}
use Rattle.std.specs.Prelude.{if◌then◌else◌}
use Rattle.std.specs.List.{list_any, find, AllByRecursion}
use Rattle.std.proofs.lemmas.Bool.{and_from, le-leb, or_from, not_from_false}
use Rattle.tta_divider.specs.Cited.{Expr, Const, Wire, Register, reads_below, is_ordered, are_apart, TellsApart, AreMadeBy}

-- elements from one place on to another, each behind the one before it
abbrev pub Between : {A : Type 0} → (at : A → ℕ) → (least top : ℕ) → List A → Type 0
Between at least top [] = least ≤ top
Between at least top (x ∷ xs) = (least ≤ at x) × Between at (at x + 1) top xs

module _ {A : Type 0} (at : A → ℕ) where
  -- between wider places
  pub wider : (less least top more : ℕ) (xs : List A) → less ≤ least → top ≤ more → Between at least top xs → Between at less more xs
  wider less least top more [] from to is = omega (arith, from, to, is)
  wider less least top more (x ∷ xs) from to is =
      (omega (arith, from, is.0), wider (at x + 1) (at x + 1) top more xs (omega arith) to is.1)

  pub joined : (least mid top : ℕ) (xs ys : List A) → Between at least mid xs → Between at mid top ys → Between at least top (xs ++ ys)
  joined least mid top [] ys left right = wider least mid top top ys left (omega arith) right
  joined least mid top (x ∷ xs) ys left right = (left.0, joined (at x + 1) mid top xs ys left.1 right)

pub mapped : {A B : Type 0} (f : A → B) (at : B → ℕ) (least top : ℕ) (xs : List A) → Between (λ x. at (f x)) least top xs
    → Between at least top (map f xs)
mapped f at least top [] is = is
mapped f at least top (x ∷ xs) is = (is.0, mapped f at (at (f x) + 1) top xs is.1)

-- wires that rise and read what is before them stand in order
pub in_order : {N M : Type 0} (rank : N → ℕ) (k least top : ℕ) (ws : List (Wire N M)) → Between (λ w. rank w.name + k) (least + k) top ws
    → AllByRecursion (λ w. reads_below rank (rank w.name) w.word ≡ true) ws → is_ordered rank least ws ≡ true
in_order rank k least top [] is reads = refl
in_order rank k least top (w ∷ ws) is reads =
    and_from _ _ (and_from _ _ (le-leb least (rank w.name) (omega (arith, is.0))) reads.0)
    (in_order rank k (rank w.name) top ws
    (wider (λ w. rank w.name + k) (rank w.name + k) (rank w.name + k + 1) top top ws (omega arith) (omega arith) is.1) reads.1)

module _ {N : Type 0} (same : N → N → Bool) (tells : TellsApart same) (place : N → ℕ) where
  -- names of different places are different
  other : (x y : N) → place x < place y → same x y ≡ false
  other x y less = by (same x y) refl where
    by : (b : Bool) → same x y ≡ b → b ≡ false
    by true is = let one : place x ≡ place y = ap place (tells.is x y is) in absurd (omega (arith, one, less))
    by false is = refl

  not_later : (x : N) (least top : ℕ) (xs : List N) → place x < least → Between place least top xs → list_any (same x) xs ≡ false
  not_later x least top [] less is = refl
  not_later x least top (y ∷ ys) less is =
      or_from (same x y) (list_any (same x) ys) (other x y (omega (arith, less, is.0)))
      (not_later x (place y + 1) top ys (omega (arith, less, is.0)) is.1)

  pub apart : (least top : ℕ) (xs : List N) → Between place least top xs → are_apart same xs ≡ true
  apart least top [] is = refl
  apart least top (x ∷ xs) is =
      and_from (not (list_any (same x) xs)) (are_apart same xs)
      (not_from_false (list_any (same x) xs) (not_later x (place x + 1) top xs (omega arith) is.1)) (apart (place x + 1) top xs is.1)

  module _ {M : Type 0} where
    -- the word of the first wire of a name
    abbrev pub looked : List (Wire N M) → N → Expr N M
    looked [] n = Const 0 0
    looked (w ∷ ws) n = if same w.name n then w.word else looked ws n

    made_from : (made : N → Expr N M) (least top : ℕ) (ws : List (Wire N M)) → Between (λ w. place w.name) least top ws
        → ((n : N) → least ≤ place n → made n ≡ looked ws n) → AreMadeBy made ws
    made_from made least top [] is has = tt
    made_from made least top (w ∷ ws) is has = (
      sym (has w.name is.0 ∙ ap (λ (b : Bool). if b then w.word else looked ws w.name) (tells.itself w.name)),
      made_from made (place w.name + 1) top ws is.1
          (λ n more. has n (omega (arith, more, is.0))
          ∙ ap (λ (b : Bool). if b then w.word else looked ws n) (other w.name n (omega (arith, more)))),
    )

    -- wires that rise are made of their names
    pub made : (least top : ℕ) (ws : List (Wire N M)) → Between (λ w. place w.name) least top ws → AreMadeBy (looked ws) ws
    made least top ws is = made_from (looked ws) least top ws is (λ n more. refl)

    found_from : (all : List (Register N M)) (least top : ℕ) (rs : List (Register N M)) → Between (λ r. place r.name) least top rs
        → ((n : N) → least ≤ place n → find (λ r. same r.name n) all ≡ find (λ r. same r.name n) rs)
        → AllByRecursion (λ x. find (λ r. same r.name x.name) all ≡ Some x) rs
    found_from all least top [] is has = tt
    found_from all least top (x ∷ rs) is has = (
      has x.name is.0 ∙ ap (λ (b : Bool). if b then Some x else find (λ r. same r.name x.name) rs) (tells.itself x.name),
      found_from all (place x.name + 1) top rs is.1
          (λ n more. has n (omega (arith, more, is.0))
          ∙ ap (λ (b : Bool). if b then Some x else find (λ r. same r.name n) rs) (other x.name n (omega (arith, more)))),
    )

    -- registers that rise are found by their names
    pub found : (least top : ℕ) (rs : List (Register N M)) → Between (λ r. place r.name) least top rs
        → AllByRecursion (λ x. find (λ r. same r.name x.name) rs ≡ Some x) rs
    found least top rs is = found_from rs least top rs is (λ n more. refl)
