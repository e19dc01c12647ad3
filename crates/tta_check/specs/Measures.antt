-- How much an abstract state admits, as a number: a joined abstract state has a greater measure, or it is the abstract state as it was.
use Rattle.std.specs.Prelude.{ℕ, ◌+◌, ◌*◌, if◌then◌else◌, List, [], ◌∷◌}
use Rattle.tta_check.specs.declared.values.ValueSet.{ValueSet}
use Rattle.tta_check.specs.declared.values.ValueSet.TheVariants.{Nothing, One, Two}
use Rattle.tta_check.specs.declared.state.Cell.{Cell}
use Rattle.tta_check.specs.declared.state.Kept.{Kept}
use Rattle.tta_check.specs.declared.state.Port.{Port}
use Rattle.tta_check.specs.declared.state.AbstractState.{AbstractState}

abbrev pub values_measure : ValueSet → ℕ
values_measure Nothing = 0
values_measure (One a) = 1
values_measure (Two a b) = 2

abbrev pub cell_measure : Cell → ℕ
cell_measure c = (if c.unset then 1 else 0) + values_measure c.values

abbrev pub cells_measure : List Kept → ℕ
cells_measure [] = 0
cells_measure (k ∷ ks) = cell_measure k.cell + cells_measure ks

abbrev pub ports_measure : List Port → ℕ
ports_measure [] = 0
ports_measure (p ∷ ps) = p.early + p.late + ports_measure ps

-- how much an abstract state admits
abbrev pub measure : AbstractState → ℕ
measure r = cells_measure r.cells.items + ports_measure r.ports.items

-- the most that an abstract state of so many places can measure: 3 for each, and what 256 units can
abbrev pub greatest_measure : (places : ℕ) → ℕ
greatest_measure places = 3 * places + 1099511692800
