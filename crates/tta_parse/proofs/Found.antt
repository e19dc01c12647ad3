-- Look-ups after one more name.
use Rattle.std.proofs.Common.{◌≡◌, ℕ, Bool, true, false, if◌then◌else◌, List, [], ◌∷◌, ◌++◌, None, Some, ap}
use Rattle.std.specs.Str.{bytes_eq}
use Rattle.std.specs.Cmp.Lexicographic.{nat_list_eq_equiv}
use Rattle.tta_parse.specs.Names.{Declared, named_in}

module _ {P : Type 0} (name : List ℕ) (place : P) where
  -- a name after others is found where they have no such name
  pub named_in-new : (names : Declared P) → named_in names name ≡ None → named_in (names ++ (name, place) ∷ []) name ≡ Some place
  named_in-new [] none = ap (λ b. if b then Some place else None) (nat_list_eq_equiv.refl name)
  named_in-new (d ∷ names) none = by (bytes_eq d.0 name) (named_in-new names) none
    where
      by : (b : Bool) → (named_in names name ≡ None → named_in (names ++ (name, place) ∷ []) name ≡ Some place)
          → (if b then Some d.1 else named_in names name) ≡ None
          → (if b then Some d.1 else named_in (names ++ (name, place) ∷ []) name) ≡ Some place
      by true rest h = cc
      by false rest h = rest h

  -- and it leaves what other names name
  pub named_in-others : (other : List ℕ) → bytes_eq name other ≡ false → (names : Declared P)
      → named_in (names ++ (name, place) ∷ []) other ≡ named_in names other
  named_in-others other differs [] = ap (λ b. if b then Some place else None) differs
  named_in-others other differs (d ∷ names) = ap (λ rest. if bytes_eq d.0 other then Some d.1 else rest) (named_in-others other differs names)
