-- What is first found in a list, and what is found where the first is none.
use Rattle.std.proofs.Common.{◌≡◌, Option, Some, None, refl, List, [], ◌∷◌, ◌++◌, ap, ◌∙◌}
use Rattle.tta_arch.specs.Effects.{or_else, first_some}

pub or_none : {B : Type 0} (o : Option B) → or_else o None ≡ o
or_none None = refl
or_none (Some b) = refl

pub first_append : {A B : Type 0} (f : A → Option B) (xs ys : List A) → first_some f (xs ++ ys) ≡ or_else (first_some f xs) (first_some f ys)
first_append f [] ys = refl
first_append {A} {B} f (x ∷ xs) ys = ap (or_else (f x)) (first_append f xs ys) ∙ on (f x) where
  on : (o : Option B) → or_else o (or_else (first_some f xs) (first_some f ys)) ≡ or_else (or_else o (first_some f xs)) (first_some f ys)
  on None = refl
  on (Some b) = refl
