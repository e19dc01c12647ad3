-- Where units offer an operation.
use Rattle.std.specs.Prelude.{ℕ, Bool, List, map, filter}
use Rattle.std.specs.List.{enumerate_from}
use Rattle.tta_arch.specs.declared.parts.Op.{Op}
use Rattle.tta_arch.specs.declared.parts.Unit.{Unit as OpUnit}
use Rattle.tta_offers.specs.declared.offers.OpAt.{OpAt}

-- where those operations of a unit stand that pass a test
unfoldable pub places_in : (Op → Bool) → ℕ × OpUnit → List (ℕ × ℕ)
places_in test u = map (λ o. (u.0, o.0)) (filter (λ o. test o.1.op) (enumerate_from 0 u.1.ops))

-- where operations stand: their units and their numbers
abbrev pub places_of : List OpAt → List (ℕ × ℕ)
places_of ops = map (λ o. (o.unit, o.op)) ops
