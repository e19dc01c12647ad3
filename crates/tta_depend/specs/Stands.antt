-- What the bounds of a block keep, and for which placed items they stand.
use Rattle.std.specs.Prelude.{◌≡◌, ℕ, ◌+◌, ◌≤◌, Bool, true, nat_lt, max, if◌then◌else◌, List, [], ◌∷◌, ◌++◌, Option}
use Rattle.std.specs.Option.{option_map_or}
use Rattle.std.specs.List.{list_all}
use Rattle.tta_depend.specs.Cited.{Machine, Item, PlacedItem, is_place, Spot, At, Started, same_spot, Touch, reads_by, writes_by, lasts, control_cycle}
use Rattle.tta_depend.specs.declared.rows.Row.{Row}
use Rattle.tta_depend.specs.Touched.{spot_number}
use Rattle.tta_depend.specs.Rows.{row_at, AreRows}

-- ---- spots

-- whether a spot is within the limits of machines
abbrev pub is_spot : Spot → Bool
is_spot (At p) = is_place p
is_spot (Started unit) = nat_lt unit 32

-- whether all that an item touches is within these limits
abbrev pub is_within : Machine → Item → Bool
is_within m x = list_all (λ t. is_spot t.0) (reads_by x ++ writes_by m x)

-- ---- what is kept

-- a row for each spot and the round that they are read in, the cycle after the last that an item takes, the cycle of the
-- control item, and the delay
pub record Kept : Type 0 where
  pub rows : List Row
  pub round : ℕ
  pub end : ℕ
  pub control : Option ℕ
  pub delay : ℕ

-- what is kept, by its parts
abbrev pub kept : (rows : List Row) (round end : ℕ) → Option ℕ → (delay : ℕ) → Kept
kept rows round end control delay = record { rows = rows; round = round; end = end; control = control; delay = delay }

-- there is a row for each spot, and the control item is early enough to count on
pub record IsKept (b : Kept) : Type 0 where
  pub rows : AreRows b.round b.rows
  pub soon : option_map_or (λ cycle. nat_lt cycle 1073741824) b.control true ≡ true
  pub short : b.delay ≤ 255

-- ---- for which items it stands

-- the greatest number of the touches of a spot, 0 where none is of the spot
abbrev pub greatest_at : (Touch → ℕ) → List Touch → Spot → ℕ
greatest_at number [] s = 0
greatest_at number (t ∷ ts) s = max (if same_spot t.0 s then number t else 0) (greatest_at number ts s)

-- how late the touches of a spot come in a cycle, with a gap after them
abbrev pub latest : (gap cycle : ℕ) → List Touch → Spot → ℕ
latest gap cycle ts s = greatest_at (λ t. cycle + t.1 + gap) ts s

-- from which cycle on the last write of a spot shows
abbrev pub shown_by : Machine → List PlacedItem → Spot → ℕ
shown_by m [] s = 0
shown_by m (x ∷ placed) s = max (latest 0 x.cycle (writes_by m x.item) s) (shown_by m placed s)

-- from which cycle on the next write of a spot may show: after all writes, and after all reads
abbrev pub free_by : Machine → List PlacedItem → Spot → ℕ
free_by m [] s = 0
free_by m (x ∷ placed) s = max (max (latest 1 x.cycle (writes_by m x.item) s) (latest 1 x.cycle (reads_by x.item) s)) (free_by m placed s)

-- the cycle after the last that an item takes, 0 where there is none
abbrev pub end_of : Machine → List PlacedItem → ℕ
end_of m [] = 0
end_of m (x ∷ placed) = max (x.cycle + lasts m x.item) (end_of m placed)

-- what is kept stands for placed items where it has of them all that a bound can ask
pub record Stands (b : Kept) (m : Machine) (placed : List PlacedItem) : Type 0 where
  pub shown : (s : Spot) → is_spot s ≡ true → (row_at b.round b.rows (spot_number s)).shown ≡ shown_by m placed s
  pub free : (s : Spot) → is_spot s ≡ true → (row_at b.round b.rows (spot_number s)).free ≡ free_by m placed s
  pub end : b.end ≡ end_of m placed
  pub control : b.control ≡ control_cycle placed
  pub delay : b.delay ≡ m.control.delay
