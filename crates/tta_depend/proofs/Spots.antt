-- The numbers of spots, and of the spots that an item touches.
use Rattle.std.proofs.Common.{◌≡◌, ℕ, ◌<◌, Bool, true, false, List, [], ◌∷◌, ◌++◌, refl, ap, arith, map}
use Rattle.std.specs.Prelude.{◌==◌, nat_lt}
use Rattle.std.specs.List.{list_all}
use Rattle.std.proofs.lemmas.Bool.{and_parts}
use Rattle.std.proofs.lemmas.Bool.Decides.{nat_tests}
use Rattle.tta_depend.specs.Cited.{Machine, same_place, Item, place_number, Spot, At, Started, same_spot, Touch, reads_by, writes_by}
use Rattle.tta_moves.proofs.InRange.{one_place, number_below}
use Rattle.tta_depend.specs.declared.touches.Touched.{Touched}
use Rattle.tta_depend.specs.Touched.{spot_number, touched, spot_below}
use Rattle.tta_depend.specs.Stands.{is_spot, is_within}
use Rattle.tta_arch.proofs.Places.{same_is}

pub spot_most : (s : Spot) → is_spot s ≡ true → spot_number s < 673
spot_most (At p) h = let lt = number_below p h in omega arith
spot_most (Started unit) h = grind (arith, nat_tests)

-- two spots of one number are one
pub one_spot : (p q : Spot) → is_spot p ≡ true → is_spot q ≡ true → (spot_number p == spot_number q) ≡ same_spot p q
one_spot (At p) (At q) h k = on (place_number p == place_number q) refl (same_place p q) refl where
  on : (a : Bool) → (place_number p == place_number q) ≡ a → (b : Bool) → same_place p q ≡ b → a ≡ b
  on true e true f = refl
  on false e false f = refl
  on true e false f = let n : place_number p ≡ place_number q = grind (arith, nat_tests) in let s = one_place p q h k n in absurd cc
  on false e true f = let n : place_number p ≡ place_number q = ap place_number (same_is p q f) in absurd (grind (arith, nat_tests))
one_spot (At p) (Started unit) h k = let lt = number_below p h in grind (arith, nat_tests)
one_spot (Started unit) (At q) h k = let lt = number_below q k in grind (arith, nat_tests)
one_spot (Started u) (Started v) h k = grind (arith, nat_tests)

-- ---- the touches of an item

spots_below : (n : ℕ) (ts : List Touch) → n ≡ 673 → list_all (λ t. is_spot t.0) ts ≡ true → list_all (spot_below n) (map touched ts) ≡ true
spots_below n [] e all = refl
spots_below n (t ∷ ts) e all =
    let two = and_parts (is_spot t.0) (list_all (λ (u : Touch). is_spot u.0) ts) all in
    let lt = spot_most t.0 two.0 in
    let b : nat_lt (spot_number t.0) n ≡ true = grind (arith, nat_tests) in
    rw b (spots_below n ts e two.1)

all_parts : (p : Touch → Bool) (xs ys : List Touch) → list_all p (xs ++ ys) ≡ true → (list_all p xs ≡ true) × (list_all p ys ≡ true)
all_parts p [] ys h = (refl, h)
all_parts p (x ∷ xs) ys h =
    let two = and_parts (p x) (list_all p (xs ++ ys)) h in
    let more = all_parts p xs ys two.1 in
    (rw (two.0, more.0) refl, more.1)

pub reads_within : (m : Machine) (x : Item) → is_within m x ≡ true → list_all (λ t. is_spot t.0) (reads_by x) ≡ true
reads_within m x h = (all_parts (λ t. is_spot t.0) (reads_by x) (writes_by m x) h).0

pub writes_within : (m : Machine) (x : Item) → is_within m x ≡ true → list_all (λ t. is_spot t.0) (writes_by m x) ≡ true
writes_within m x h = (all_parts (λ t. is_spot t.0) (reads_by x) (writes_by m x) h).1

-- touches of an item by their numbers are of spots that have a row
pub reads_below : (m : Machine) (x : Item) (n : ℕ) (ts : List Touched) → is_within m x ≡ true → n ≡ 673 → ts ≡ map touched (reads_by x) → list_all (spot_below n) ts ≡ true
reads_below m x n ts h e is = rw is (spots_below n (reads_by x) e (reads_within m x h))

pub writes_below : (m : Machine) (x : Item) (n : ℕ) (ts : List Touched) → is_within m x ≡ true → n ≡ 673 → ts ≡ map touched (writes_by m x) → list_all (spot_below n) ts ≡ true
writes_below m x n ts h e is = rw is (spots_below n (writes_by m x) e (writes_within m x h))
