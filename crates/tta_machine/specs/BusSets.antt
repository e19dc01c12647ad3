-- The buses of a line as a set, where each stands once.
use Rattle.std.specs.Prelude.{ℕ, ◌==◌, if◌then◌else◌, List, Option, Some, None}
use Rattle.tta_machine.specs.Declarations.{bus_set}
use Rattle.tta_machine.specs.Cited.{are_different}

-- the set of these buses, and none where a bus stands twice
abbrev pub set_once : List ℕ → Option ℕ
set_once buses = if are_different (λ a b. a == b) buses then Some (bus_set buses) else None
