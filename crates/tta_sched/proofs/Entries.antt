-- Tests of the entries of a list.
use Rattle.std.proofs.Common.{◌≡◌, ℕ, suc, ◌<◌, Bool, false, List, [], ◌∷◌, refl, arith, length}
use Rattle.std.specs.Prelude.{slice_get}
use Rattle.std.specs.Option.{option_map_or}
use Rattle.std.specs.List.{list_any}

-- where no entry of a list passes a test in its place, none does
pub none_passes : {A : Type 0} (p : A → Bool) (xs : List A) → ((k : ℕ) → k < length xs → option_map_or p (slice_get xs k) false ≡ false) → list_any p xs ≡ false
none_passes p [] none = refl
none_passes p (x ∷ xs) none = let here : p x ≡ false = none 0 (omega arith) in rw here (none_passes p xs (λ k lt. none (suc k) (omega arith)))
