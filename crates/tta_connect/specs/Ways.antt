-- How a word gets from one end to another.
use Rattle.std.specs.Prelude.{ℕ, Bool, ◌&&◌, if◌then◌else◌, Option, Some, None}
use Rattle.tta_connect.specs.Cited.{GuardRef, Source, Dest, Machine}
use Rattle.tta_connect.specs.declared.way.Way.{Way}
use Rattle.tta_connect.specs.declared.way.Way.TheVariants.{Direct, Hub}
use Rattle.tta_connect.specs.Coverage.{some_bus, from, into}

-- whether the source is joined to the hub, and the hub to the destination with the guard
abbrev pub goes_by_hub : Machine → (hub : ℕ) → Source → Dest → Option GuardRef → Bool
goes_by_hub m hub src dst guard = some_bus m src (into hub) None && some_bus m (from hub) dst guard

-- over one bus, or over the hub, or not at all
abbrev pub way : Machine → (hub : ℕ) → Source → Dest → Option GuardRef → Option Way
way m hub src dst guard =
    if some_bus m src dst guard then Some Direct else if goes_by_hub m hub src dst guard then Some Hub else None
