-- A list with one element changed.
use Rattle.std.proofs.Common.{◌≡◌, ℕ, zero, suc, ◌<◌, List, [], ◌∷◌, length, Some, refl, arith, ◌≢◌, ap, ◌∙◌, length-set}
use Rattle.std.specs.Prelude.{slice_get, slice_set}
use Rattle.tta_list.specs.Laid.{Laid, over}

pub set_same : {A : Type 0} (xs : List A) (i : ℕ) (v : A) → i < length xs → slice_get (slice_set xs i v) i ≡ Some v
set_same [] i v below = absurd (omega arith)
set_same (x ∷ xs) zero v below = refl
set_same (x ∷ xs) (suc i) v below = set_same xs i v (omega arith)

pub set_other : {A : Type 0} (xs : List A) (i k : ℕ) (v : A) → i ≢ k → slice_get (slice_set xs i v) k ≡ slice_get xs k
set_other [] i k v other = refl
set_other (x ∷ xs) zero zero v other = absurd (other refl)
set_other (x ∷ xs) zero (suc k) v other = refl
set_other (x ∷ xs) (suc i) zero v other = refl
set_other (x ∷ xs) (suc i) (suc k) v other = set_other xs i k v (λ e. other (ap suc e))

pub set_count : {A : Type 0} (xs : List A) (p : ℕ) (v : A) → length (slice_set xs p v) ≡ length xs
set_count [] p v = refl
set_count (x ∷ xs) zero v = refl
set_count (x ∷ xs) (suc p) v = let e = set_count xs p v in omega arith

-- a memory over which words are laid has as many words as before
pub over-length : (laid : Laid) (memory : List ℕ) → length (over laid memory) ≡ length memory
over-length [] memory = refl
over-length (d ∷ ds) memory = over-length ds (slice_set memory d.0 d.1) ∙ length-set memory d.0 d.1
