-- Marks of numbers.
use Rattle.std.proofs.Common.{◌≡◌, ℕ, zero, suc, ◌+◌, ◌<◌, ◌≤◌, Bool, true, false, List, [], ◌∷◌, Some, refl, sym, subst, arith}
use Rattle.std.specs.Prelude.{nat_lt, slice_get, slice_set}
use Rattle.std.proofs.lemmas.Bool.Decides.{nat_tests}
use Rattle.tta_moves.proofs.Places.{either}

-- the first of some marks are set
abbrev pub AreMarked : (n : ℕ) → (marks : List Bool) → Type 0
AreMarked n marks = (i : ℕ) → i < n → slice_get marks i ≡ Some true

set_keeps : (marks : List Bool) (k i : ℕ) → slice_get marks i ≡ Some true → slice_get (slice_set marks k true) i ≡ Some true
set_keeps [] k i e = e
set_keeps (b ∷ bs) zero zero e = refl
set_keeps (b ∷ bs) zero (suc i) e = e
set_keeps (b ∷ bs) (suc k) zero e = e
set_keeps (b ∷ bs) (suc k) (suc i) e = set_keeps bs k i e

set_there : (marks : List Bool) (k : ℕ) → slice_get marks k ≡ Some false → slice_get (slice_set marks k true) k ≡ Some true
set_there [] k e = absurd cc
set_there (b ∷ bs) zero e = refl
set_there (b ∷ bs) (suc k) e = set_there bs k e

pub still_marked : (n : ℕ) (marks : List Bool) (k : ℕ) → AreMarked n marks → AreMarked n (slice_set marks k true)
still_marked n marks k marked i lt = set_keeps marks k i (marked i lt)

pub mark_more : (n : ℕ) (marks : List Bool) → AreMarked n marks → slice_get marks n ≡ Some false → AreMarked (n + 1) (slice_set marks n true)
mark_more n marks marked free i lt = either (nat_lt i n)
    (λ less. set_keeps marks n i (marked i (grind (arith, nat_tests, less))))
    (λ more. let same : i ≡ n = grind (arith, nat_tests, more, lt) in subst (λ j. slice_get (slice_set marks n true) j ≡ Some true) (sym same) (set_there marks n free))

-- a number that is not marked comes after those that are
pub unmarked_after : (n : ℕ) (marks : List Bool) (k : ℕ) → AreMarked n marks → slice_get marks k ≡ Some false → n ≤ k
unmarked_after n marks k marked free = either (nat_lt k n)
    (λ less. let lt : k < n = grind (arith, nat_tests, less) in let set = marked k lt in absurd cc)
    (λ more. grind (arith, nat_tests, more))
