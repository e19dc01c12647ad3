-- Operations that take a word of the input.
use Rattle.std.proofs.Common.{◌≡◌, ℕ, List, [], ◌∷◌, Option, sym, ap}
use Rattle.std.specs.Prelude.{slice_get, slice_index}
use Rattle.std.specs.Option.{unwrap_or}

-- what takes nothing leaves the input

-- the next word, 0 where none is left
pub next_word : (rest : List ℕ) (next : Option ℕ) → slice_get rest 0 ≡ next → unwrap_or next 0 ≡ slice_index rest 0
next_word [] next fed = ap (λ o. unwrap_or o 0) (sym fed)
next_word (x ∷ rest) next fed = ap (λ o. unwrap_or o 0) (sym fed)
