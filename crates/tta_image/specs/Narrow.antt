-- How wide fields can be.
use Rattle.std.specs.Prelude.{◌≡◌, ◌+◌, ◌<◌, ◌≤◌, List}
use Rattle.std.specs.List.{AllByRecursion}
use Rattle.tta_image.specs.Cited.{BusFields}

-- the fields of a bus have so few bits that a machine word holds each of them, and all of them together
pub record IsNarrow (f : BusFields) : Type 0 where
  pub guard : f.guard_width ≤ 7
  pub some_short : 0 < f.short_width
  pub short : f.short_width ≤ 32
  pub payload : f.payload_width ≤ 32
  pub dest : f.dest_width ≤ 15
  pub whole : f.width ≡ f.guard_width + (1 + f.payload_width) + f.dest_width

-- the same for each bus
abbrev pub AreNarrow : List BusFields → Type 0
AreNarrow fs = AllByRecursion IsNarrow fs
