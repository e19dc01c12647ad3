-- What holds of all lists and placements.
use Rattle.std.specs.Prelude.{◌≡◌, ℕ, ◌-◌, ◌<◌, ◌^◌, true, List}
use Rattle.tta_arch.specs.declared.ends.Source.TheVariants as source
use Rattle.tta_moves.specs.Cited.{Machine, IsMachine, is_source_on}
use Rattle.tta_moves.specs.declared.items.Item.{Item}
use Rattle.tta_moves.specs.declared.items.Placed.{Placed}
use Rattle.tta_moves.specs.Bounds.{Respects}
use Rattle.tta_moves.specs.FirstFit.{IsFirstFit}

-- a first fit of a list respects it
abbrev pub FirstFitRespects : Type 0
FirstFitRespects = (m : Machine) (items : List Item) (p : Placed) → IsFirstFit m items p → Respects m items p

-- a field that holds the greatest address holds each address
abbrev pub HoldsEachAddress : Type 0
HoldsEachAddress =
    (m : Machine) → IsMachine m → (bus address : ℕ) → address < 2 ^ m.control.address
    → is_source_on m bus (source.Value (2 ^ m.control.address - 1)) ≡ true → is_source_on m bus (source.Value address) ≡ true
