-- Printed names tell variables, labels and procedures apart.
use Rattle.std.proofs.Common.{◌≡◌, ℕ, ◌<◌, ◌^◌, ◌==◌, Bool, true, false, List, ◌∷◌, ◌++◌, refl, sym, ◌∙◌, arith}
use Rattle.std.specs.Prelude.{codes, decimal, if◌then◌else◌}
use Rattle.std.specs.Str.{bytes_eq}
use Rattle.std.proofs.lemmas.Bool.{eqb-true}
use Rattle.std.proofs.lemmas.Slice.Eq.{bytes_eq-Decides}
use Rattle.std.proofs.lemmas.Fmt.{decimal_injective}
use Rattle.tta_pretty.specs.Printed.{var_name, label_name, proc_name}

-- bytes are equal exactly where the test says so
pub bytes_same : (xs ys : List ℕ) → bytes_eq xs ys ≡ true → xs ≡ ys
bytes_same xs ys e = (bytes_eq-Decides xs ys).0 e

pub bytes_apart : (xs ys : List ℕ) → (xs ≡ ys → ⊥) → bytes_eq xs ys ≡ false
bytes_apart xs ys apart = by (bytes_eq xs ys) refl where
  by : (b : Bool) → bytes_eq xs ys ≡ b → b ≡ false
  by true e = absurd (apart (bytes_same xs ys e))
  by false e = refl

-- a letter before
tail_same : (a b : ℕ) (xs ys : List ℕ) → a ∷ xs ≡ b ∷ ys → xs ≡ ys
tail_same a b xs ys e = cc

-- different numbers
decimals_apart : (i j : ℕ) → i < 2 ^ 32 → j < 2 ^ 32 → (i ≡ j → ⊥) → decimal i ≡ decimal j → ⊥
decimals_apart i j small_i small_j apart e = apart (decimal_injective i j (omega arith) (omega arith) e)

pub vars_apart : (i j : ℕ) → i < 2 ^ 32 → j < 2 ^ 32 → (i ≡ j → ⊥) → bytes_eq (var_name i) (var_name j) ≡ false
vars_apart i j small_i small_j apart = bytes_apart (var_name i) (var_name j) (λ e. decimals_apart i j small_i small_j apart (tail_same 118 118 (decimal i) (decimal j) e))

pub labels_apart : (i j : ℕ) → i < 2 ^ 32 → j < 2 ^ 32 → (i ≡ j → ⊥) → bytes_eq (label_name i) (label_name j) ≡ false
labels_apart i j small_i small_j apart = bytes_apart (label_name i) (label_name j) (λ e. decimals_apart i j small_i small_j apart (tail_same 76 76 (decimal i) (decimal j) e))

pub procs_apart : (main i j : ℕ) → i < 2 ^ 32 → j < 2 ^ 32 → (i ≡ j → ⊥) → bytes_eq (proc_name main i) (proc_name main j) ≡ false
procs_apart main i j small_i small_j apart = by (i == main) refl (j == main) refl where
  by : (a : Bool) → (i == main) ≡ a → (b : Bool) → (j == main) ≡ b → bytes_eq (if a then codes "main" else codes "p" ++ decimal i) (if b then codes "main" else codes "p" ++ decimal j) ≡ false
  by true e true f = absurd (apart (eqb-true i main e ∙ sym (eqb-true j main f)))
  by true e false f = refl
  by false e true f = refl
  by false e false f = bytes_apart (codes "p" ++ decimal i) (codes "p" ++ decimal j) (λ s. decimals_apart i j small_i small_j apart (tail_same 112 112 (decimal i) (decimal j) s))

-- which procedure is called main
pub main_named : (main k : ℕ) → bytes_eq (proc_name main k) (codes "main") ≡ (k == main)
main_named main k = by (k == main) where
  by : (b : Bool) → bytes_eq (if b then codes "main" else codes "p" ++ decimal k) (codes "main") ≡ b
  by true = refl
  by false = refl
