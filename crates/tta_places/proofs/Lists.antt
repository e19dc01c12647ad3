-- Lists that are gone through.
use Rattle.std.proofs.Common.{◌≡◌, ℕ, ◌+◌, ◌<◌, Bool, ◌||◌, List, [], ◌∷◌, ◌++◌, drop, get_or, length, sym, ap, ◌∙◌}
use Rattle.std.specs.Prelude.{map}
use Rattle.std.specs.List.{list_any}
use Rattle.std.proofs.lemmas.List.{append_assoc, drop_more}

-- the next element's value was put
pub one_on : {X Y : Type 0} (f : X → Y) (xs : List X) (k : ℕ) (d : X) (old new all : List Y) → k < length xs → new ≡ old ++ f (get_or xs k d) ∷ []
    → old ++ map f (drop k xs) ≡ all → new ++ map f (drop (k + 1) xs) ≡ all
one_on f xs k d old new all within put was =
    ap (λ l. l ++ map f (drop (k + 1) xs)) put ∙ append_assoc old (f (get_or xs k d) ∷ []) (map f (drop (k + 1) xs))
    ∙ sym (ap (λ l. old ++ map f l) (drop_more xs k d within)) ∙ was

-- whether one of the rest passes a test, by the next of them
pub any_on : {X : Type 0} (f : X → Bool) (xs : List X) (k : ℕ) (d : X) (b : Bool) → k < length xs → f (get_or xs k d) ≡ b → list_any f (drop k xs) ≡ list_any f xs
    → (b || list_any f (drop (k + 1) xs)) ≡ list_any f xs
any_on f xs k d b within is was =
    sym (ap (λ (t : Bool). t || list_any f (drop (k + 1) xs)) is) ∙ sym (ap (list_any f) (drop_more xs k d within)) ∙ was
