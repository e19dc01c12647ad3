-- Data that lie in the data space.
use Rattle.std.proofs.Common.{◌≡◌, ℕ, Bool, true, false, List, [], ◌∷◌, None, refl}
use Rattle.std.specs.Prelude.{nat_lt}
use Rattle.std.specs.List.{list_all}
use Rattle.tta_build.specs.Cited.{DataLine, first_outside}

-- where none lies outside, each address is below the number
pub all_inside : (words : ℕ) (init : List DataLine) → first_outside words init ≡ None → list_all (λ (d : DataLine). nat_lt d.address words) init ≡ true
all_inside words [] none = refl
all_inside words (d ∷ ds) none = on (nat_lt d.address words) refl (all_inside words ds) where
  on : (b : Bool) → nat_lt d.address words ≡ b → (first_outside words ds ≡ None → list_all (λ (d : DataLine). nat_lt d.address words) ds ≡ true)
      → list_all (λ (d : DataLine). nat_lt d.address words) (d ∷ ds) ≡ true
  on true e more = rw (e, more (rest e)) refl where
    rest : nat_lt d.address words ≡ true → first_outside words ds ≡ None
    rest e = cc
  on false e more = cc
