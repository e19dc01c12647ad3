-- A set of buses, one bit each, has no bit that no bus has.
use Rattle.std.proofs.Common.{◌≡◌, ◌<◌, ◌≤◌, ◌+◌, ◌*◌, ◌^◌, ◌∷◌, [], ℕ, Bool, List, true, false, not, zero, suc, length, refl, ap, subst, ◌∙◌, arith, pow_pos, pow-suc, ◌⊎◌, inl, inr}
use Rattle.std.specs.Prelude.{◌==◌, nat_lt, if◌then◌else◌}
use Rattle.std.specs.List.{list_any, AllByRecursion}
use Rattle.std.proofs.lemmas.Bool.{and_parts, or_parts, not-true, lt-ltb, le-ltb, eqb-false, cases_eq}
use Rattle.std.proofs.lemmas.Bool.Decides.{nat_tests}
use Rattle.tta_machine.specs.Cited.{are_different, IsBusSet}
use Rattle.tta_machine.specs.Declarations.{bus_set}

-- the bits of the buses below n
abbrev set_below : ℕ → List ℕ → ℕ
set_below n [] = 0
set_below n (k ∷ ks) = (if nat_lt k n then 2 ^ k else 0) + set_below n ks

set_below-all : (n : ℕ) (ks : List ℕ) → AllByRecursion (λ k. k < n) ks → set_below n ks ≡ bus_set ks
set_below-all n [] all = refl
set_below-all n (k ∷ ks) all =
    let first : nat_lt k n ≡ true = lt-ltb k n all.0 in
    ap (λ (b : Bool). (if b then 2 ^ k else 0) + set_below n ks) first ∙ ap (λ s. 2 ^ k + s) (set_below-all n ks all.1)

set_below-none : (ks : List ℕ) → set_below 0 ks ≡ 0
set_below-none [] = refl
set_below-none (k ∷ ks) =
    let first : nat_lt k 0 ≡ false = le-ltb k 0 (omega arith) in
    let later : set_below 0 ks ≡ 0 = set_below-none ks in
    rw first (omega arith)

-- one bus more does nothing where it is not in the list
set_below-without : (n : ℕ) (ks : List ℕ) → list_any (λ k. n == k) ks ≡ false → set_below (suc n) ks ≡ set_below n ks
set_below-without n [] none = refl
set_below-without n (k ∷ ks) none =
    let parts = or_parts (n == k) (list_any (λ j. n == j) ks) none in
    let later : set_below (suc n) ks ≡ set_below n ks = set_below-without n ks parts.1 in
    let other : n ≡ k → ⊥ = eqb-false n k parts.0 in
    let same : nat_lt k (suc n) ≡ nat_lt k n = grind (arith, nat_tests) in
    ap (λ (b : Bool). (if b then 2 ^ k else 0) + set_below (suc n) ks) same ∙ ap (λ s. (if nat_lt k n then 2 ^ k else 0) + s) later

-- and adds its bit at most once where no bus stands twice
set_below-more : (n : ℕ) (ks : List ℕ) → are_different (λ a b. a == b) ks ≡ true → set_below (suc n) ks ≤ set_below n ks + 2 ^ n
set_below-more n [] all = omega arith
set_below-more n (k ∷ ks) all = by (set_below-more n ks parts.1) (cases_eq k n) where
  parts : (not (list_any (λ b. k == b) ks) ≡ true) × (are_different (λ a b. a == b) ks ≡ true)
  parts = and_parts (not (list_any (λ b. k == b) ks)) (are_different (λ a b. a == b) ks) all

  by : set_below (suc n) ks ≤ set_below n ks + 2 ^ n → (k ≡ n) ⊎ (k ≡ n → ⊥)
      → (if nat_lt k (suc n) then 2 ^ k else 0) + set_below (suc n) ks ≤ (if nat_lt k n then 2 ^ k else 0) + set_below n ks + 2 ^ n
  by later (inl same) =
      let without : set_below (suc n) ks ≡ set_below n ks =
      set_below-without n ks (subst (λ j. list_any (λ b. j == b) ks ≡ false) same (not-true (list_any (λ b. k == b) ks) parts.0)) in
      let last : nat_lt k (suc n) ≡ true = lt-ltb k (suc n) (omega arith) in
      let past : nat_lt k n ≡ false = le-ltb k n (omega arith) in
      let bit : 2 ^ k ≡ 2 ^ n = ap (λ j. 2 ^ j) same in
      rw (last, past) (omega arith)
  by later (inr other) =
      let same : nat_lt k (suc n) ≡ nat_lt k n = grind (arith, nat_tests) in
      rw same (omega arith)

set_below-lt : (n : ℕ) (ks : List ℕ) → are_different (λ a b. a == b) ks ≡ true → set_below n ks < 2 ^ n
set_below-lt zero ks all = rw (set_below-none ks) (omega arith)
set_below-lt (suc n) ks all =
    let later : set_below n ks < 2 ^ n = set_below-lt n ks all in
    let more : set_below (suc n) ks ≤ set_below n ks + 2 ^ n = set_below-more n ks all in
    let twice : 2 ^ suc n ≡ 2 ^ n * 2 = pow-suc 2 n in
    omega arith

-- the set of different buses below n, at least one
pub IsBusSet-bus_set : (n : ℕ) (ks : List ℕ) → 0 < length ks → AllByRecursion (λ k. k < n) ks → are_different (λ a b. a == b) ks ≡ true → IsBusSet n (bus_set ks)
IsBusSet-bus_set n [] some all different = absurd (omega arith)
IsBusSet-bus_set n (k ∷ ks) some all different =
    let bit : 0 < 2 ^ k = pow_pos k in
    (omega arith, subst (λ s. s < 2 ^ n) (set_below-all n (k ∷ ks) all) (set_below-lt n (k ∷ ks) different))
