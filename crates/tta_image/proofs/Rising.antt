-- Lists whose items have rising ranks: no item stands twice, so its place determines an item.
use Rattle.std.proofs.Common.{◌≡◌, ℕ, zero, suc, ◌+◌, ◌*◌, ◌<◌, ◌≤◌, Bool, true, false, List, [], ◌∷◌, ◌++◌, length, map, filter, slice_get, Some, refl, ap, ◌∙◌, subst, arith}
use Rattle.std.specs.List.{flat_map, enumerate_from, range_with_len, position_or_len, AllByRecursion}
use Rattle.std.proofs.lemmas.Bool.{false_from_ne_true}
use Rattle.std.proofs.lemmas.Option.{none-some, same_Some}
use Rattle.tta_image.specs.Ranks.{Rising}

pub rising_lower : {X : Type 0} (rank : X → ℕ) (low low' : ℕ) (xs : List X) (high : ℕ) → low' ≤ low → Rising rank low xs high → Rising rank low' xs high
rising_lower rank low low' [] high h r = omega arith
rising_lower rank low low' (x ∷ xs) high h r = let first = r.0 in (omega arith, r.1)

pub rising-append : {X : Type 0} (rank : X → ℕ) (low middle high : ℕ) (xs ys : List X) → Rising rank low xs middle → Rising rank middle ys high
    → Rising rank low (xs ++ ys) high
rising-append rank low middle high [] ys r s = rising_lower rank middle low ys high r s
rising-append rank low middle high (x ∷ xs) ys r s = (r.0, rising-append rank (rank x + 1) middle high xs ys r.1 s)

pub rising-filter : {X : Type 0} (rank : X → ℕ) (p : X → Bool) (low high : ℕ) (xs : List X) → Rising rank low xs high → Rising rank low (filter p xs) high
rising-filter rank p low high [] r = r
rising-filter rank p low high (x ∷ xs) r = by (p x) refl (rising-filter rank p (rank x + 1) high xs r.1) where
  by : (b : Bool) → p x ≡ b → Rising rank (rank x + 1) (filter p xs) high → Rising rank low (filter p (x ∷ xs)) high
  by true is rest = rw is (r.0, rest)
  by false is rest = let first = r.0 in rw is (rising_lower rank (rank x + 1) low (filter p xs) high (omega arith) rest)

-- what the numbers of a range give
pub rising-range : {X : Type 0} (rank : X → ℕ) (f : ℕ → X) (base a n : ℕ) → ((i : ℕ) → rank (f i) ≡ base + i)
    → Rising rank (base + a) (map f (range_with_len a n)) (base + (a + n))
rising-range rank f base a zero ranks = omega arith
rising-range rank f base a (suc n) ranks =
    let first = ranks a in
    let e : base + (a + 1 + n) ≡ base + (a + suc n) = omega arith in
    let rest = rising-range rank f base (a + 1) n ranks in (
      omega arith,
      subst (λ (high : ℕ). Rising rank (rank (f a) + 1) (map f (range_with_len (a + 1) n)) high) e
          (rising_lower rank (base + (a + 1)) (rank (f a) + 1) (map f (range_with_len (a + 1) n)) (base + (a + 1 + n)) (omega arith) rest),
    )

pub rising_raise : {X : Type 0} (rank : X → ℕ) (low high high' : ℕ) (xs : List X) → high ≤ high' → Rising rank low xs high → Rising rank low xs high'
rising_raise rank low high high' [] h r = omega arith
rising_raise rank low high high' (x ∷ xs) h r = (r.0, rising_raise rank (rank x + 1) high high' xs h r.1)

-- what the items of a list give, each with so many ranks of its own
pub rising-pieces : {X A : Type 0} (rank : A → ℕ) (g : ℕ × X → List A) (P : X → Type 0) (base step a : ℕ) (xs : List X)
    → ((k : ℕ) (x : X) → P x → Rising rank (base + k * step) (g (k, x)) (base + (k + 1) * step)) → AllByRecursion P xs
    → Rising rank (base + a * step) (flat_map g (enumerate_from a xs)) (base + (a + length xs) * step)
rising-pieces rank g P base step a [] one all = let e : a + 0 ≡ a = omega arith in rw e (omega arith)
rising-pieces rank g P base step a (x ∷ xs) one all =
    let e : a + 1 + length xs ≡ a + suc (length xs) = omega arith in
    subst (λ (n : ℕ). Rising rank (base + a * step) (flat_map g (enumerate_from a (x ∷ xs))) (base + n * step)) e
    (rising-append rank (base + a * step) (base + (a + 1) * step) (base + (a + 1 + length xs) * step) (g (a, x)) (flat_map g (enumerate_from (a + 1) xs))
    (one a x all.0) (rising-pieces rank g P base step (a + 1) xs one all.1))

-- there are no more items than ranks
pub rising-length : {X : Type 0} (rank : X → ℕ) (low high : ℕ) (xs : List X) → Rising rank low xs high → low + length xs ≤ high
rising-length rank low high [] r = omega arith
rising-length rank low high (x ∷ xs) r = let first = r.0 in let rest = rising-length rank (rank x + 1) high xs r.1 in omega arith

-- the rank of an item
pub rising-rank : {X : Type 0} (rank : X → ℕ) (low high k : ℕ) (x : X) (xs : List X) → Rising rank low xs high → slice_get xs k ≡ Some x
    → (low ≤ rank x) × (rank x < high)
rising-rank rank low high k x [] r at = absurd (none-some x at)
rising-rank rank low high zero x (y ∷ ys) r at =
    let same : rank y ≡ rank x = ap rank (same_Some y x at) in
    let first = r.0 in let rest = rising-length rank (rank y + 1) high ys r.1 in
    (omega arith, omega arith)
rising-rank rank low high (suc k) x (y ∷ ys) r at =
    let first = r.0 in let rest = rising-rank rank (rank y + 1) high k x ys r.1 at in let least = rest.0 in let most = rest.1 in
    (omega arith, omega arith)

-- a test that an item passes, and else only items of its rank, is passed first at the item's place
pub rising-position : {X : Type 0} (rank : X → ℕ) (q : X → Bool) (low high k : ℕ) (x : X) (xs : List X) → Rising rank low xs high → slice_get xs k ≡ Some x
    → q x ≡ true → ((y : X) → q y ≡ true → rank y ≡ rank x) → position_or_len q xs ≡ k
rising-position rank q low high k x [] r at pass only = absurd (none-some x at)
rising-position rank q low high zero x (y ∷ ys) r at pass only =
    let is : q y ≡ true = ap q (same_Some y x at) ∙ pass in rw is refl
rising-position rank q low high (suc k) x (y ∷ ys) r at pass only =
    let later = rising-rank rank (rank y + 1) high k x ys r.1 at in
    let least = later.0 in
    let is : q y ≡ false = false_from_ne_true (q y) (λ h. let same = only y h in absurd (omega arith)) in
    let rest = rising-position rank q (rank y + 1) high k x ys r.1 at pass only in
    rw is (omega arith)
