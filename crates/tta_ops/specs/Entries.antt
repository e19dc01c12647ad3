-- How a map from names to places is read as rows.
use Rattle.std.specs.Prelude.{List, map}
use Rattle.std.specs.Global.{Global}
use Rattle.std.specs.declared.string.String.{String}
use Rattle.std.specs.String.{string_bytes}
use Rattle.tta_ops.specs.declared.place.Place.{Place}
use Rattle.tta_ops.specs.Row.{Row}

-- the rows that stand for the entries of the map, in the order in which they were added
abbrev pub rows_of : List (String Global × Place) → List Row
rows_of entries = map (λ entry. record { name = string_bytes entry.0; place = entry.1 }) entries
