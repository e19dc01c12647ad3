-- Lists that grow.
use Rattle.std.proofs.Common.{◌≡◌, ℕ, ◌+◌, List, [], ◌∷◌, ◌++◌, sym, ap, ◌∙◌, arith}
use Rattle.std.specs.Prelude.{map}
use Rattle.std.specs.List.{range_with_len}
use Rattle.std.proofs.lemmas.List.{append_assoc}
use Rattle.std.proofs.lemmas.List.FromFn.{map-range_with_len_more}

-- one number more
pub one_more : {X : Type 0} (f : ℕ → X) (all old new : List X) (n : ℕ) → old ≡ all ++ map f (range_with_len 0 n) → new ≡ old ++ f n ∷ []
    → new ≡ all ++ map f (range_with_len 0 (n + 1))
one_more f all old new n was is =
    is ∙ ap (λ l. l ++ f n ∷ []) was ∙ append_assoc all (map f (range_with_len 0 n)) (f n ∷ [])
    ∙ ap (λ l. all ++ l) (sym (map-range_with_len_more f 0 n n (omega arith)))
